-- The tests of one function pass exactly where it is placed, and its code and its tables stand.
use Rattle.std.proofs.Common.{◌≡◌, ℕ, zero, suc, ◌+◌, ◌-◌, ◌*◌, ◌%◌, ◌<◌, true, ◌&&◌, List, [], ◌∷◌, length, Some, refl, sym, ◌∙◌, ap}
use Rattle.std.proofs.Common.{subst, arith}
use Rattle.std.specs.Prelude.{Option, is_some, slice_get, ◌==◌}
use Rattle.std.proofs.lemmas.Bool.{and_parts, and_from, eqb-true, eq-eqb}
use Rattle.ordered_tests.specs.Checks.{from_to}
use Rattle.ordered_tests.specs.Lists.{EachOf}
use Rattle.ordered_tests.proofs.Lists.{each_append, each_left, each_right}
use Rattle.word_ops.specs.Ranges.{extent}
use Rattle.image_model.specs.Image.{Image}
use Rattle.image_model.specs.Loaded.{word_at}
use Rattle.layout_model.specs.Layouts.{Layout}
use Rattle.asm_syntax.specs.declared.instr.Instr.{Instr}
use Rattle.asm_syntax.specs.declared.instr.Instr.TheVariants as instrs
use Rattle.code_model.specs.Forms.{Form, forms, instr_length}
use Rattle.code_model.specs.Spelling.{first_word, words_spell}
use Rattle.code_model.specs.WordChecks.{words_checks}
use Rattle.code_model.specs.Addresses.{loaded_word, words_from, are_loaded, address_after, instr_address, code_end, label_address}
use Rattle.code_model.specs.Areas.{is_table_kind, is_in_one_area}
use Rattle.code_model.specs.Code.{target, IsTable, is_spelt_at, table_address}
use Rattle.code_model.specs.FunctionChecks.{byte_check, byte_checks, place_checks, table_word_checks, table_checks, jump_checks}
use Rattle.code_model.specs.FunctionChecks.{instr_checks, code_checks, function_checks}
use Rattle.link_model.specs.Candidates.{Inputs}
use Rattle.link_model.specs.Binding.{symbol_address}
use Rattle.link_model.specs.Parts.{IsPlaced, IsCode}
use Rattle.link_laws.proofs.Items.{each_mapped, each_unmapped, some_item}
use Rattle.link_laws.proofs.Addresses.{after_is, address_low, address_end, address_next, get_below, some_word, first_forms}
use Rattle.link_laws.proofs.Loading.{runs_words, words_length, forms_length, each_number, number_each}
use Rattle.link_laws.proofs.Words.{Passes, words_pass, words_right}

-- ---- the words of a table

loaded_at : (v : Image) (t m j : ℕ) → are_loaded v t m ≡ true → j < m → word_at v (t + 4 * j) ≡ Some (loaded_word v (t + 4 * j))
loaded_at v t zero j h lt = absurd (omega arith)
loaded_at v t (suc m) zero h lt =
    let first = (and_parts (is_some (word_at v t)) (are_loaded v (t + 4) m) h).0 in
    some_word (word_at v (t + 4 * 0)) (subst (λ a. is_some (word_at v a) ≡ true) (omega arith) first)
loaded_at v t (suc m) (suc j) h lt =
    let rest = (and_parts (is_some (word_at v t)) (are_loaded v (t + 4) m) h).1 in
    subst (λ a. word_at v a ≡ Some (loaded_word v a)) (omega arith) (loaded_at v (t + 4) m j rest (omega arith))

all_loaded : (v : Image) (t m : ℕ) → ((j : ℕ) → j < m → is_some (word_at v (t + 4 * j)) ≡ true) → are_loaded v t m ≡ true
all_loaded v t zero h = refl
all_loaded v t (suc m) h =
    and_from (is_some (word_at v t)) (are_loaded v (t + 4) m)
    (subst (λ a. is_some (word_at v a) ≡ true) (omega arith) (h 0 (omega arith)))
    (all_loaded v (t + 4) m (λ j lt. subst (λ a. is_some (word_at v a) ≡ true) (omega arith) (h (suc j) (omega arith))))

table_word_get : (v : Image) (label_at : ℕ → ℕ) (offset t m : ℕ) (labels : List ℕ) (j n : ℕ) →
    EachOf Passes (table_word_checks v label_at offset t m labels) → slice_get labels j ≡ Some n →
    loaded_word v (t + 4 * j) ≡ label_at n
table_word_get v label_at offset t m [] j n e h = absurd (cc)
table_word_get v label_at offset t m (k ∷ ks) zero n e h =
    let s : k ≡ n = cc in
    let here = eqb-true (loaded_word v t) (label_at k) e.0 in
    subst (λ a. loaded_word v a ≡ label_at n) (omega arith) (here ∙ ap label_at s)
table_word_get v label_at offset t m (k ∷ ks) (suc j) n e h =
    subst (λ a. loaded_word v a ≡ label_at n) (omega arith) (table_word_get v label_at offset (t + 4) (m + 1) ks j n e.1 h)

table_word_each : (v : Image) (label_at : ℕ → ℕ) (offset t m : ℕ) (labels : List ℕ) →
    ((j n : ℕ) → slice_get labels j ≡ Some n → loaded_word v (t + 4 * j) ≡ label_at n) →
    EachOf Passes (table_word_checks v label_at offset t m labels)
table_word_each v label_at offset t m [] h = tt
table_word_each v label_at offset t m (k ∷ ks) h = (
  eq-eqb (loaded_word v t) (label_at k) (subst (λ a. loaded_word v a ≡ label_at k) (omega arith) (h 0 k refl)),
  table_word_each v label_at offset (t + 4) (m + 1) ks
      (λ j n e. subst (λ a. loaded_word v a ≡ label_at n) (omega arith) (h (suc j) n e)),
)

-- ---- tables

some_is : (o : Option ℕ) (w : ℕ) → o ≡ Some w → is_some o ≡ true
some_is o w e = rw e refl

word_is : (v : Image) (a w : ℕ) → word_at v a ≡ Some w → loaded_word v a ≡ w
word_is v a w e = rw e refl

table_right : (v : Image) (l : Layout) (base : ℕ) (code : List Instr) (offset a : ℕ) (labels : List ℕ) →
    EachOf Passes (table_checks v l (label_address v base code) offset (table_address v a) labels) → IsTable v l base code a labels
unfolding table_checks
table_right v l base code offset a labels e =
    let label_at = label_address v base code in
    let t = table_address v a in
    let m = length labels in
    let one = and_parts (t % 4 == 0 && are_loaded v t m) (is_in_one_area l is_table_kind (extent t (t + 4 * m))) e.0 in
    let two = and_parts (t % 4 == 0) (are_loaded v t m) one.0 in
    record {
      aligned = eqb-true (t % 4) 0 two.0;
      placed = one.1;
      words = λ j n js. loaded_at v t m j two.1 (get_below labels j n js)
          ∙ ap (λ w. Some w) (table_word_get v label_at offset t 0 labels j n e.1 js);
    }

table_passes : (v : Image) (l : Layout) (base : ℕ) (code : List Instr) (offset a : ℕ) (labels : List ℕ) →
    IsTable v l base code a labels → EachOf Passes (table_checks v l (label_address v base code) offset (table_address v a) labels)
unfolding table_checks
table_passes v l base code offset a labels k =
    let t = table_address v a in
    let m = length labels in
    let there : are_loaded v t m ≡ true =
    all_loaded v t m (λ j lt. let r = some_item labels j lt in some_is (word_at v (t + 4 * j)) _ (k.words j r.0 r.1)) in (
      and_from (t % 4 == 0 && are_loaded v t m) (is_in_one_area l is_table_kind (extent t (t + 4 * m)))
          (and_from (t % 4 == 0) (are_loaded v t m) (eq-eqb (t % 4) 0 k.aligned) there) k.placed,
      table_word_each v (label_address v base code) offset t 0 labels (λ j n e. word_is v (t + 4 * j) _ (k.words j n e)),
    )

-- ---- the instructions of code that begins at a

code_get : (v : Image) (l : Layout) (symbol_at : List ℕ → ℕ) (label_at : ℕ → ℕ) (base a : ℕ) (code : List Instr) (i : ℕ) (x : Instr) →
    EachOf Passes (code_checks v l symbol_at label_at base a code) → slice_get code i ≡ Some x →
    EachOf Passes (instr_checks v l symbol_at label_at (instr_address v a code i - base) (instr_address v a code i) x)
code_get v l symbol_at label_at base a [] i x e h = absurd (cc)
code_get v l symbol_at label_at base a (y ∷ ys) zero x e h =
    let s : y ≡ x = cc in
    subst (λ z. EachOf Passes (instr_checks v l symbol_at label_at (a - base) a z)) s
    (each_left Passes (instr_checks v l symbol_at label_at (a - base) a y) _ e)
code_get v l symbol_at label_at base a (y ∷ ys) (suc i) x e h =
    code_get v l symbol_at label_at base (address_after v a y) ys i x
    (each_right Passes (instr_checks v l symbol_at label_at (a - base) a y) _ e) h

code_each : (v : Image) (l : Layout) (symbol_at : List ℕ → ℕ) (label_at : ℕ → ℕ) (base a : ℕ) (code : List Instr) →
    ((i : ℕ) (x : Instr) → slice_get code i ≡ Some x →
    EachOf Passes (instr_checks v l symbol_at label_at (instr_address v a code i - base) (instr_address v a code i) x)) →
    EachOf Passes (code_checks v l symbol_at label_at base a code)
code_each v l symbol_at label_at base a [] h = tt
code_each v l symbol_at label_at base a (y ∷ ys) h =
    each_append Passes (instr_checks v l symbol_at label_at (a - base) a y) _ (h 0 y refl)
    (code_each v l symbol_at label_at base (address_after v a y) ys (λ i x e. h (suc i) x e))

-- ---- one instruction

-- the tests of the words, and those of the table
instr_parts : (v : Image) (l : Layout) (symbol_at : List ℕ → ℕ) (label_at : ℕ → ℕ) (offset a : ℕ) (x : Instr) →
    EachOf Passes (instr_checks v l symbol_at label_at offset a x) →
    (let ws = words_from v a (instr_length x (loaded_word v a)) in
    EachOf Passes (words_checks l offset a (forms (target symbol_at label_at x) x (first_word ws)) ws))
    × EachOf Passes (jump_checks v l label_at offset a x)
unfolding instr_checks
instr_parts v l symbol_at label_at offset a x e =
    let ws = words_from v a (instr_length x (loaded_word v a)) in
    let tests = words_checks l offset a (forms (target symbol_at label_at x) x (first_word ws)) ws in
    let table = jump_checks v l label_at offset a x in
    (each_left Passes tests table e, each_right Passes tests table e)

instr_passes : (v : Image) (l : Layout) (symbol_at : List ℕ → ℕ) (label_at : ℕ → ℕ) (offset a : ℕ) (x : Instr) →
    is_spelt_at v l a (target symbol_at label_at x) x ≡ true → EachOf Passes (jump_checks v l label_at offset a x) →
    EachOf Passes (instr_checks v l symbol_at label_at offset a x)
unfolding instr_checks
instr_passes v l symbol_at label_at offset a x spelt table =
    let n = instr_length x (loaded_word v a) in
    let ws = words_from v a n in
    let fs = forms (target symbol_at label_at x) x (first_word ws) in
    let t = and_parts (are_loaded v a n) (words_spell l a fs ws) spelt in
    each_append Passes (words_checks l offset a fs ws) (jump_checks v l label_at offset a x) (words_pass l offset a fs ws t.1) table

-- ---- one function

function_parts : (g : Inputs) (bs : List ℕ) (u base : ℕ) (code : List Instr) →
    EachOf Passes (function_checks g.image g.layout (symbol_address g bs u) base code) →
    EachOf Passes (place_checks g.image g.layout base (code_end g.image base code))
    × EachOf Passes (code_checks g.image g.layout (symbol_address g bs u) (label_address g.image base code) base base code)
unfolding function_checks
function_parts g bs u base code e =
    let v = g.image in
    let place = place_checks v g.layout base (code_end v base code) in
    let rest = code_checks v g.layout (symbol_address g bs u) (label_address v base code) base base code in
    (each_left Passes place rest e, each_right Passes place rest e)

pub function_placed : (g : Inputs) (bs : List ℕ) (u base : ℕ) (code : List Instr) →
    EachOf Passes (function_checks g.image g.layout (symbol_address g bs u) base code) → IsPlaced g base code
unfolding place_checks byte_checks
function_placed g bs u base code e =
    let end = code_end g.image base code in
    let place = (function_parts g bs u base code e).0 in
    let bytes = each_unmapped (λ a. Passes (byte_check g.image base a)) Passes (byte_check g.image base) (from_to base end)
    (λ x h. h) place.1.1 in
    record {
      aligned = eqb-true (base % 4) 0 place.0;
      inside = place.1.0;
      runs = λ a low high. each_number (λ a. Passes (byte_check g.image base a)) base (end - base) a bytes low (omega arith);
    }

instr_tests : (g : Inputs) (bs : List ℕ) (u base : ℕ) (code : List Instr) →
    EachOf Passes (function_checks g.image g.layout (symbol_address g bs u) base code) → (i : ℕ) (x : Instr) → slice_get code i ≡ Some x →
    (let a = instr_address g.image base code i in
    EachOf Passes (instr_checks g.image g.layout (symbol_address g bs u) (label_address g.image base code) (a - base) a x))
instr_tests g bs u base code e i x is =
    code_get g.image g.layout (symbol_address g bs u) (label_address g.image base code) base base code i x
    (function_parts g bs u base code e).1 is

spelt_right : (g : Inputs) (bs : List ℕ) (u base : ℕ) (code : List Instr) →
    EachOf Passes (function_checks g.image g.layout (symbol_address g bs u) base code) → (i : ℕ) (x : Instr) → slice_get code i ≡ Some x →
    is_spelt_at g.image g.layout (instr_address g.image base code i)
    (target (symbol_address g bs u) (label_address g.image base code) x) x ≡ true
spelt_right g bs u base code e i x is =
    let v = g.image in
    let placed = function_placed g bs u base code e in
    let a = instr_address v base code i in
    let n = instr_length x (loaded_word v a) in
    let ws = words_from v a n in
    let t = target (symbol_address g bs u) (label_address v base code) x in
    let fs = forms t x (first_word ws) in
    let low = address_low v base code i in
    let lt = get_below code i x is in
    let end = address_end v base code (suc i) (omega arith) in
    let next = address_next v base code i x is in
    let size = after_is v a x in
    let same : length fs ≡ length ws =
    ap (λ (gs : List Form). length gs) (first_forms v a t x) ∙ forms_length t x (loaded_word v a) ∙ sym (words_length v a n) in
    let tests = (instr_parts v g.layout (symbol_address g bs u) (label_address v base code) (a - base) a x
    (instr_tests g bs u base code e i x is)).0 in
    and_from (are_loaded v a n) (words_spell g.layout a fs ws) (runs_words v n a (λ b lo hi. placed.runs b (omega arith) (omega arith)))
    (words_right g.layout (a - base) a fs ws same tests)

pub function_code : (g : Inputs) (bs : List ℕ) (u base : ℕ) (code : List Instr) →
    EachOf Passes (function_checks g.image g.layout (symbol_address g bs u) base code) → IsCode g bs u base code
function_code g bs u base code e = record {
  instructions = spelt_right g bs u base code e;
  tables = λ i r labels is.
      let v = g.image in
      let a = instr_address v base code i in
      table_right v g.layout base code (a - base) a labels
      (instr_parts v g.layout (symbol_address g bs u) (label_address v base code) (a - base) a (instrs.Btbl r labels)
      (instr_tests g bs u base code e i (instrs.Btbl r labels) is)).1;
}

jump_passes : (g : Inputs) (bs : List ℕ) (u base : ℕ) (code : List Instr) → IsCode g bs u base code → (i : ℕ) (x : Instr) →
    slice_get code i ≡ Some x →
    (let a = instr_address g.image base code i in
    EachOf Passes (jump_checks g.image g.layout (label_address g.image base code) (a - base) a x))
jump_passes g bs u base code k i (instrs.Btbl r labels) is =
    let a = instr_address g.image base code i in table_passes g.image g.layout base code (a - base) a labels (k.tables i r labels is)
jump_passes g bs u base code k i _ is = tt

pub function_passes : (g : Inputs) (bs : List ℕ) (u base : ℕ) (code : List Instr) → IsPlaced g base code → IsCode g bs u base code →
    EachOf Passes (function_checks g.image g.layout (symbol_address g bs u) base code)
unfolding function_checks place_checks byte_checks
function_passes g bs u base code p k =
    let v = g.image in
    let l = g.layout in
    let symbol_at = symbol_address g bs u in
    let label_at = label_address v base code in
    let end = code_end v base code in
    let low = address_low v base code (length code) in
    let bytes = each_mapped (λ a. Passes (byte_check v base a)) Passes (byte_check v base) (from_to base end) (λ x h. h)
    (number_each (λ a. Passes (byte_check v base a)) base (end - base) (λ a lo hi. p.runs a lo (omega arith))) in
    each_append Passes (place_checks v l base end) (code_checks v l symbol_at label_at base base code)
    (eq-eqb (base % 4) 0 p.aligned, (p.inside, bytes))
    (code_each v l symbol_at label_at base base code (λ i x is.
    let a = instr_address v base code i in
    instr_passes v l symbol_at label_at (a - base) a x (k.instructions i x is) (jump_passes g bs u base code k i x is)))
