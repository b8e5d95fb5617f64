-- A map from borrowed names to declarations.
use Rattle.std.proofs.Common.{◌≡◌, ℕ, Bool, true, false, List, [], ◌∷◌, cond, refl, sym, ◌∙◌, ap}
use Rattle.std.specs.Prelude.{Option, Some, None, is_some, option_map}
use Rattle.std.specs.Option.{option_or}
use Rattle.std.specs.Map.{lookup}
use Rattle.std.specs.Str.{bytes_eq}
use Rattle.std.specs.declared.cmp.Ordering.{Ordering}
use Rattle.std.specs.declared.cmp.Ordering.TheVariants.{Less, Equal, Greater}
use Rattle.std.specs.Ordering.{is_eq}
use Rattle.std.specs.BTreeMap.{insert_entry}
use Rattle.std.proofs.lemmas.Slice.Eq.{bytes_eq-Decides}
use Rattle.link_model.specs.Program.{Declaration}
use Rattle.asm_program.specs.declared.codes.CodedName.{CodedName}
use Rattle.asm_program.specs.declared.declared.Declared.{Declared}
use Rattle.asm_program.specs.Seen.{declaration_seen, named}
use Rattle.asm_program.proofs.CodedNames.{by_text}
use Rattle.asm_program.proofs.NameSets.{is_kept, is_kept_is, kept_alike}

abbrev pub Entry : Type 0
Entry = CodedName × Declared

equal_entry : (a b : Bool) (v w : Declared) (o : Option Declared) → a ≡ b → cond a (Some v) o ≡ cond b (Some v) (cond a (Some w) o)
equal_entry true true v w o h = refl
equal_entry true false v w o h = cc
equal_entry false true v w o h = cc
equal_entry false false v w o h = refl

greater_entry : (a b : Bool) (v w : Declared) (o : Option Declared) → (a ≡ true → b ≡ false)
    → cond a (Some w) (cond b (Some v) o) ≡ cond b (Some v) (cond a (Some w) o)
greater_entry true true v w o h = let e = h refl in cc
greater_entry true false v w o h = refl
greater_entry false b v w o h = refl

not_both : (b : Bool) → (b ≡ true → ⊥) → b ≡ false
not_both true p = absurd (p refl)
not_both false p = refl

-- a name cannot be equal to two that differ
apart : (q : List ℕ) (k e : CodedName) → by_text k e ≡ Greater → is_kept q e ≡ true → is_kept q k ≡ false
apart q k e h at = not_both (is_kept q k) (λ here.
    let s : q ≡ e.name.now = (bytes_eq-Decides q e.name.now).0 (sym (is_kept_is q e) ∙ at) in
    let t : q ≡ k.name.now = (bytes_eq-Decides q k.name.now).0 (sym (is_kept_is q k) ∙ here) in
    let same : is_kept k.name.now e ≡ true = is_kept_is k.name.now e ∙ (bytes_eq-Decides k.name.now e.name.now).1 (sym t ∙ s) in
    let g : is_kept k.name.now e ≡ false = ap is_eq h in
    cc)

entry_step : (q : List ℕ) (e : Entry) (es : List Entry) (k : CodedName) (v : Declared) (o : Ordering) → by_text k e.0 ≡ o
    → lookup (is_kept q) (insert_entry by_text es k v) ≡ cond (is_kept q k) (Some v) (lookup (is_kept q) es)
    → lookup (is_kept q) (insert_entry by_text (e ∷ es) k v) ≡ cond (is_kept q k) (Some v) (lookup (is_kept q) (e ∷ es))
entry_step q e es k v Less h again = rw h refl
entry_step q e es k v Equal h again =
    rw h (equal_entry (is_kept q e.0) (is_kept q k) v e.1 (lookup (is_kept q) es) (kept_alike q k e.0 h))
entry_step q e es k v Greater h again =
    rw h (ap (λ o. cond (is_kept q e.0) (Some e.1) o) again
    ∙ greater_entry (is_kept q e.0) (is_kept q k) v e.1 (lookup (is_kept q) es) (apart q k e.0 h))

insert_found : (q : List ℕ) (es : List Entry) (k : CodedName) (v : Declared)
    → lookup (is_kept q) (insert_entry by_text es k v) ≡ cond (is_kept q k) (Some v) (lookup (is_kept q) es)
insert_found q [] k v = refl
insert_found q (e ∷ es) k v = entry_step q e es k v (by_text k e.0) refl (insert_found q es k v)

seen_step : (b c : Bool) (d : Declared) (o : Option Declared) (p : Option Declaration) → b ≡ c → option_map declaration_seen o ≡ p
    → option_map declaration_seen (cond b (Some d) o) ≡ cond c (Some (declaration_seen d)) p
seen_step true true d o p h k = refl
seen_step true false d o p h k = cc
seen_step false true d o p h k = cc
seen_step false false d o p h k = k

-- a look-up, as it is seen
pub get_is : (q : List ℕ) (es : List Entry) → option_map declaration_seen (lookup (is_kept q) es) ≡ lookup (bytes_eq q) (named es)
get_is q [] = refl
get_is q (e ∷ es) = seen_step (is_kept q e.0) (bytes_eq q e.0.name.now) e.1 (lookup (is_kept q) es) (lookup (bytes_eq q) (named es))
    (is_kept_is q e.0) (get_is q es)

pub insert_seen : (q : List ℕ) (es : List Entry) (k : CodedName) (v : Declared)
    → lookup (bytes_eq q) (named (insert_entry by_text es k v)) ≡ cond (bytes_eq q k.name.now) (Some (declaration_seen v))
    (lookup (bytes_eq q) (named es))
insert_seen q es k v =
    sym (get_is q (insert_entry by_text es k v))
    ∙ (ap (option_map declaration_seen) (insert_found q es k v)
    ∙ seen_step (is_kept q k) (bytes_eq q k.name.now) v (lookup (is_kept q) es) (lookup (bytes_eq q) (named es)) (is_kept_is q k) (get_is q es))

turn : (b : Bool) (d : Declaration) (o : Option Declaration) → (b ≡ true → is_some o ≡ false)
    → cond b (Some d) o ≡ option_or o (cond b (Some d) None)
turn true d None h = refl
turn true d (Some e) h = let k = h refl in cc
turn false d None h = refl
turn false d (Some e) h = refl

-- a name that is new
pub insert_new : (q n : List ℕ) (d : Declaration) (firsts : List (List ℕ × Declaration)) → is_some (lookup (bytes_eq n) firsts) ≡ false
    → cond (bytes_eq q n) (Some d) (lookup (bytes_eq q) firsts) ≡ option_or (lookup (bytes_eq q) firsts) (cond (bytes_eq q n) (Some d) None)
insert_new q n d firsts h = turn (bytes_eq q n) d (lookup (bytes_eq q) firsts)
    (λ t. ap (λ m. is_some (lookup (bytes_eq m) firsts)) ((bytes_eq-Decides q n).0 t) ∙ h)

keep : (b : Bool) (d : Declaration) (o : Option Declaration) → (b ≡ true → is_some o ≡ true) → o ≡ option_or o (cond b (Some d) None)
keep true d None h = let k = h refl in cc
keep true d (Some e) h = refl
keep false d None h = refl
keep false d (Some e) h = refl

-- a name that is there
pub keep_old : (q n : List ℕ) (d : Declaration) (firsts : List (List ℕ × Declaration)) → is_some (lookup (bytes_eq n) firsts) ≡ true
    → lookup (bytes_eq q) firsts ≡ option_or (lookup (bytes_eq q) firsts) (cond (bytes_eq q n) (Some d) None)
keep_old q n d firsts h = keep (bytes_eq q n) d (lookup (bytes_eq q) firsts)
    (λ t. ap (λ m. is_some (lookup (bytes_eq m) firsts)) ((bytes_eq-Decides q n).0 t) ∙ h)

some_map : (o : Option Declared) → is_some (option_map declaration_seen o) ≡ is_some o
some_map None = refl
some_map (Some d) = refl

-- whether a name is there
pub found_is : (n m : List ℕ) (es : List Entry) (firsts : List (List ℕ × Declaration)) (r : Bool)
    → r ≡ is_some (lookup (is_kept n) es) → named es ≡ firsts → n ≡ m → is_some (lookup (bytes_eq m) firsts) ≡ r
found_is n m es firsts r h view e =
    ap (λ l. is_some (lookup (bytes_eq m) l)) (sym view)
    ∙ (ap (λ t. is_some (lookup (bytes_eq t) (named es))) (sym e)
    ∙ (ap is_some (sym (get_is n es)) ∙ (some_map (lookup (is_kept n) es) ∙ sym h)))
