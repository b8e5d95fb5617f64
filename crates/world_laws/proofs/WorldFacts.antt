-- The facts of a matching image are what the laws of steps need of its world.
use Rattle.std.proofs.Common.{◌≡◌, ℕ, zero, suc, ◌+◌, ◌*◌, ◌%◌, ◌<◌, ◌≤◌, Bool, true, false, ◌&&◌, List, [], ◌∷◌, length, map, Option}
use Rattle.std.proofs.Common.{Some, None, refl, sym, ap, ap₂, ◌∙◌, subst, arith, if◌then◌else◌}
use Rattle.std.specs.Prelude.{◌==◌, slice_get, slice_index_or, find, is_some, option_map, option_and_then, unwrap_or, nat_le, nat_lt}
use Rattle.std.specs.Option.{option_map_or}
use Rattle.std.specs.List.{enumerate_from}
use Rattle.std.proofs.lemmas.Bool.{and_parts, and_from, eq-eqb, eqb-true, ne_eqb, le-leb, lt-ltb}
use Rattle.image_model.specs.Image.{Image}
use Rattle.image_model.specs.Loaded.{byte_at, flags_at, word_at}
use Rattle.word_ops.specs.Ranges.{holds}
use Rattle.layout_model.specs.Facts.{IsLayout}
use Rattle.asm_syntax.specs.Instructions.{instr_symbol, labels_named}
use Rattle.asm_syntax.specs.References.{Reference}
use Rattle.asm_syntax.specs.Sizes.{variable_size}
use Rattle.asm_syntax.specs.declared.instr.Function.{Function}
use Rattle.asm_syntax.specs.declared.instr.Instr.{Instr}
use Rattle.asm_syntax.specs.declared.instr.Instr.TheVariants as instrs
use Rattle.asm_syntax.specs.declared.unit.External as syntax
use Rattle.asm_syntax.specs.declared.unit.Sig.{Sig}
use Rattle.asm_syntax.specs.declared.unit.Variable.{Variable}
use Rattle.asm_shapes.specs.Shapes.{HasInstrShape}
use Rattle.ppc_decode.specs.declared.machine.Machine.{Machine}
use Rattle.ppc_decode.specs.Decoding.{decoded}
use Rattle.ppc_decode.proofs.Decoded.{decoded_own}
use Rattle.code_model.specs.Forms.{Form, forms}
use Rattle.code_model.specs.Addresses.{loaded_word, instr_address, label_address}
use Rattle.code_model.specs.Code.{target, first_label}
use Rattle.link_model.specs.declared.key.KeyKind.{KeyKind}
use Rattle.link_model.specs.declared.key.KeyKind.TheVariants as kinds
use Rattle.link_model.specs.Binding.{key_address, symbol_address}
use Rattle.link_model.specs.Candidates.{Inputs}
use Rattle.link_model.specs.Numbers.{item_kind, key_of, number_before, is_function, is_variable, variables}
use Rattle.link_model.specs.Parts.{IsKey}
use Rattle.link_model.specs.Program.{Declaration, Item, OfFunction, OfVariable, OfExternal, keys, resolve}
use Rattle.link_laws.specs.Facts as facts
use Rattle.link_laws.specs.Facts.{Facts, IsOffData, IsCodeWord, AreCodeWords, FunctionFacts, target_of}
use Rattle.link_laws.specs.Laws.{LinkedFacts}
use Rattle.asm_values.specs.Operands.{kind_at}
use Rattle.asm_step.specs.LinkedCode.{Linked, Routine, key_at, sig_of}
use Rattle.asm_machine.specs.Executables.{key_meant, key_named, routine_of, routines, item_sig, sigs, linked}
use Rattle.ppc_machine.specs.declared.externals.External.{External}
use Rattle.machine_model.specs.FlatRuns.{stands_at, external_of, outside}
use Rattle.machine_model.specs.Worlds.{World, world_of, address_of_key, size_in, code_of, place_at, target_in}
use Rattle.machine_model.specs.Fits.{InStack, InVariable, Data, Stacked, OfVariable as OfData, CodeAt, Spelt, Spelts, TableWord, IsShaped}
use Rattle.machine_model.specs.Fits.{InstrIs, KeyFits, ExternalIs, Fits}
use Rattle.world_laws.specs.Laws.{WorldsFit}
use Rattle.world_laws.proofs.Elements.{get_some, get_or_is, get_below, map_get}
use Rattle.world_laws.proofs.Loads.{word_flagged, mapped_off, run_off, stack_open, word_off}
use Rattle.world_laws.proofs.Numbers.{FunctionIs, function_is, function_once, function_number, VariableIs, variable_is, variable_number}
use Rattle.world_laws.proofs.Numbers.{kinds_long, kind_is, resolve_below}

pub holds_of : (a lo hi : ℕ) → lo ≤ a → a < hi → (nat_le lo a && nat_lt a hi) ≡ true
holds_of a lo hi p q = and_from (nat_le lo a) (nat_lt a hi) (le-leb lo a p) (lt-ltb a hi q)

module _ (g : Inputs) (bs stack : List ℕ) (layout : IsLayout g.layout) (link : LinkedFacts g.program) (fs : Facts g bs)
    (long : length stack + g.layout.stack.lo ≡ g.layout.stack.hi) where
  abbrev W : World
  W = world_of g bs stack

  -- ---- functions

  record Known (f : ℕ) : Type 0 where
    routine : Routine
    found : slice_get (routines g.program.units) f ≡ Some routine
    of : FunctionIs g.program.units f routine

  known : (f : ℕ) → f < length W.program.routines → Known f
  known f h = let r = get_some W.program.routines f h in record { routine = r.0; found = r.1; of = function_is g.program.units f r.0 r.1 }

  function_at : (f : ℕ) (k : Known f) → W.function_at f ≡ key_address bs k.of.key
  function_at f k = ap (address_of_key bs) k.of.number

  code_is : (f : ℕ) (k : Known f) → code_of W.program f ≡ k.of.function.code
  code_is f k = ap (λ o. option_map_or (λ (r : Routine). r.code) o []) k.found ∙ ap (λ (r : Routine). r.code) k.of.routine

  function_facts : (f : ℕ) (k : Known f) → FunctionFacts g bs k.of.unit (W.function_at f) (code_of W.program f)
  function_facts f k =
      subst (λ c. FunctionFacts g bs k.of.unit (W.function_at f) c) (sym (code_is f k))
      (subst (λ a. FunctionFacts g bs k.of.unit a k.of.function.code) (sym (function_at f k))
      (fs.functions k.of.key k.of.unit k.of.function k.of.is))

  -- the key that an instruction names
  key_is : (f i : ℕ) (x : Instr) (k : Known f) → slice_get (code_of W.program f) i ≡ Some x
      → key_at W.program f i ≡ key_named g.program.units k.of.unit x
  key_is f i x k e =
      let own : slice_get k.of.function.code i ≡ Some x = ap (λ c. slice_get c i) (sym (code_is f k)) ∙ e in
      ap (λ o. option_map_or (λ (r : Routine). slice_index_or r.keys i 0) o 0) k.found
      ∙ ap (λ (r : Routine). slice_index_or r.keys i 0) k.of.routine
      ∙ get_or_is (map (key_named g.program.units k.of.unit) k.of.function.code) i (key_named g.program.units k.of.unit x) 0
      (map_get (key_named g.program.units k.of.unit) k.of.function.code i ∙ ap (option_map (key_named g.program.units k.of.unit)) own)

  -- what a name means
  record Meant (f i : ℕ) (k : Known f) (r : Reference) : Type 0 where
    key : ℕ
    resolves : resolve g.program.units k.of.unit r.name ≡ Some key
    below : key < length W.program.kinds
    is : key_at W.program f i ≡ key

  meant : (f i : ℕ) (x : Instr) (k : Known f) (r : Reference) → slice_get (code_of W.program f) i ≡ Some x → instr_symbol x ≡ Some r
      → Meant f i k r
  meant f i x k r e q =
      let own : slice_get k.of.function.code i ≡ Some x = ap (λ c. slice_get c i) (sym (code_is f k)) ∙ e in
      let m = link.names.functions k.of.key k.of.unit k.of.function i x r k.of.is own q in
      let l = kinds_long g.program.units in
      let b = resolve_below g.program.units k.of.unit r.name m.0 m.1 in
      record {
        key = m.0;
        resolves = m.1;
        below = omega arith;
        is = key_is f i x k e ∙ ap (λ o. option_map_or (λ (r : Reference). key_meant g.program.units k.of.unit r.name) o 0) q
            ∙ ap (λ o. unwrap_or o 0) m.1;
      }

  same_target : (f i : ℕ) (x : Instr) (k : Known f) → slice_get (code_of W.program f) i ≡ Some x
      → target_of g bs k.of.unit (W.function_at f) (code_of W.program f) x ≡ target_in W f i x
  same_target f i x k e = by (instr_symbol x) refl
    where
      labels : ℕ
      labels = first_label (label_address g.image (W.function_at f) (code_of W.program f)) (labels_named x)

      by : (o : Option Reference) → instr_symbol x ≡ o
          → option_map_or (λ (r : Reference). symbol_address g bs k.of.unit r.name) (instr_symbol x)
          (first_label (label_address g.image (W.function_at f) (code_of W.program f)) (labels_named x))
          ≡ option_map_or (λ (r : Reference). key_address bs (key_at W.program f i)) (instr_symbol x)
          (first_label (label_address g.image (W.function_at f) (code_of W.program f)) (labels_named x))
      by None q = rw q refl
      by (Some r) q =
          let m = meant f i x k r e q in
          rw q (ap (λ o. option_map_or (key_address bs) o 0) m.resolves ∙ ap (key_address bs) (sym m.is))

  -- ---- variables

  pub record KnownVariable (v : ℕ) : Type 0 where
    pub variable : Variable
    pub of : VariableIs g.program.units v variable
    pub at : W.variable_at v ≡ key_address bs of.key
    pub size : W.variable_size v ≡ variable_size variable.init

  pub known_variable : (v : ℕ) → v < W.program.variables → KnownVariable v
  known_variable v h =
      let x = get_some (variables g.program.units) v h in
      let k = variable_is g.program.units v x.0 x.1 in
      record {
        variable = x.0;
        of = k;
        at = ap (address_of_key bs) k.number;
        size = ap (λ o. option_map_or (λ (x : Variable). variable_size x.init) o 0) x.1;
      }

  pub in_variable : (v a : ℕ) (i : InVariable W v a) → facts.InVariable g bs (known_variable v i.is).of.key a
  in_variable v a i =
      let k = known_variable v i.is in
      let at = k.at in let size = k.size in let lo = i.from in let hi = i.below in (
        k.of.unit,
        k.variable,
        k.of.is,
        holds_of a (key_address bs k.of.key) (key_address bs k.of.key + variable_size k.variable.init) (omega arith) (omega arith),
      )

  off_data : (a : ℕ) → IsOffData g bs a → Data W a → ⊥
  off_data a o (Stacked s) = let q = holds_of a g.layout.stack.lo g.layout.stack.hi s.0 s.1 in let z = o.off_stack in cc
  off_data a o (OfData v i) = o.off_variables (known_variable v i.is).of.key (in_variable v a i)

  -- ---- externals

  none_stands : (a n : ℕ) (ds : List Declaration)
      → ((j : ℕ) (d : Declaration) → slice_get ds j ≡ Some d → key_address bs (n + j) ≡ a → is_some (item_sig d.item) ≡ true → ⊥)
      → find (stands_at bs a) (enumerate_from n ds) ≡ None
  none_stands a n [] h = refl
  none_stands a n (d ∷ ds) h =
      at (key_address bs n == a) (is_some (item_sig d.item)) refl refl
      (none_stands a (n + 1) ds (λ j e q r s. let z : n + 1 + j ≡ n + suc j = omega arith in
      h (suc j) e q (subst (λ m. key_address bs m ≡ a) z r) s))
    where
      at : (p q : Bool) → (key_address bs n == a) ≡ p → is_some (item_sig d.item) ≡ q
          → find (stands_at bs a) (enumerate_from (n + 1) ds) ≡ None
          → (if p && q then Some (n, d) else find (stands_at bs a) (enumerate_from (n + 1) ds)) ≡ None
      at true true e s rest = let z : n ≡ n + 0 = omega arith in
          absurd (h 0 d refl (subst (λ m. key_address bs m ≡ a) z (eqb-true (key_address bs n) a e)) s)
      at true false e s rest = rest
      at false q e s rest = rest

  abbrev called_as : ℕ → Sig → External
  called_as k sig = record { number = k; sig = sig }

  one_stands : (a : ℕ) (sig : Sig) (n : ℕ) (ds : List Declaration) (i : ℕ) (d : Declaration) → slice_get ds i ≡ Some d
      → key_address bs (n + i) ≡ a → item_sig d.item ≡ Some sig
      → ((j : ℕ) (e : Declaration) → slice_get ds j ≡ Some e → key_address bs (n + j) ≡ a → is_some (item_sig e.item) ≡ true → j ≡ i)
      → option_and_then external_of (find (stands_at bs a) (enumerate_from n ds)) ≡ Some (called_as (n + i) sig)
  one_stands a sig n [] i d e at s one = cc
  one_stands a sig n (x ∷ xs) zero d e at s one =
      let q : x ≡ d = cc in
      let z : n + 0 ≡ n = omega arith in
      let t : key_address bs n ≡ a = ap (key_address bs) (sym z) ∙ at in
      let u : item_sig x.item ≡ Some sig = ap (λ (y : Declaration). item_sig y.item) q ∙ s in
      let made : external_of (n, x) ≡ Some (called_as n sig) = ap (option_map (called_as n)) u in
      let rest = find (stands_at bs a) (enumerate_from (n + 1) xs) in
      ap (λ b. option_and_then external_of (if b && is_some (item_sig x.item) then Some (n, x) else rest)) (eq-eqb (key_address bs n) a t)
      ∙ ap (λ b. option_and_then external_of (if b then Some (n, x) else rest)) (ap is_some u)
      ∙ made ∙ ap (λ m. Some (called_as m sig)) (sym z)
  one_stands a sig n (x ∷ xs) (suc i) d e at s one =
      let z : n + 1 + i ≡ n + suc i = omega arith in
      by (key_address bs n == a) (is_some (item_sig x.item)) refl refl (
      one_stands a sig (n + 1) xs i d e (ap (key_address bs) z ∙ at) s
      (λ j y q r u. let w : n + 1 + j ≡ n + suc j = omega arith in let t = one (suc j) y q (ap (key_address bs) (sym w) ∙ r) u in
      omega arith)
      ∙ ap (λ m. Some (called_as m sig)) z
      )
    where
      by : (p q : Bool) → (key_address bs n == a) ≡ p → is_some (item_sig x.item) ≡ q
          → option_and_then external_of (find (stands_at bs a) (enumerate_from (n + 1) xs)) ≡ Some (called_as (n + suc i) sig)
          → option_and_then external_of (if p && q then Some (n, x) else find (stands_at bs a) (enumerate_from (n + 1) xs))
          ≡ Some (called_as (n + suc i) sig)
      by true true p q rest =
          let w : n ≡ n + 0 = omega arith in
          let t = one 0 x refl (ap (key_address bs) (sym w) ∙ eqb-true (key_address bs n) a p) q in
          absurd (omega arith)
      by true false p q rest = rest
      by false q p u rest = rest

  -- an item with a signature is an external
  record IsExternal (d : Declaration) (sig : Sig) : Type 0 where
    external : syntax.External
    item : d.item ≡ OfExternal external
    has : external.sig ≡ Some sig

  external_item : (d : Declaration) (sig : Sig) → item_sig d.item ≡ Some sig → IsExternal d sig
  external_item d sig h = at d.item refl
    where
      at : (i : Item) → d.item ≡ i → IsExternal d sig
      at (OfExternal x) q = record { external = x; item = q; has = ap item_sig (sym q) ∙ h }
      at (OfFunction f) q = let e : item_sig (OfFunction f) ≡ Some sig = ap item_sig (sym q) ∙ h in cc
      at (OfVariable x) q = let e : item_sig (OfVariable x) ≡ Some sig = ap item_sig (sym q) ∙ h in cc

  some_sig : (o : Option Sig) → is_some o ≡ true → (sig : Sig) × (o ≡ Some sig)
  some_sig None h = cc
  some_sig (Some sig) h = (sig, refl)

  is_key : (k : ℕ) (d : Declaration) (sig : Sig) (x : IsExternal d sig) → slice_get (keys g.program.units) k ≡ Some d
      → IsKey g k d.unit (OfExternal x.external)
  is_key k d sig x h = h ∙ ap (λ i. Some (record { unit = d.unit; item = i })) x.item

  not_called : (a : ℕ) → ((k u : ℕ) (x : syntax.External) → IsKey g k u (OfExternal x) → key_address bs k ≡ a → ⊥) → W.outside a ≡ None
  not_called a h =
      ap (option_and_then external_of)
      (none_stands a 0 (keys g.program.units) (λ j d e q s.
      let o = some_sig (item_sig d.item) s in
      let x = external_item d o.0 o.1 in
      let z : 0 + j ≡ j = omega arith in
      h j d.unit x.external (is_key j d o.0 x e) (ap (key_address bs) (sym z) ∙ q)))

  sig_found : (k : ℕ) (sig : Sig) → sig_of W.program k ≡ Some sig
      → (d : Declaration) × (slice_get (keys g.program.units) k ≡ Some d) × (item_sig d.item ≡ Some sig)
  unfolding sigs
  sig_found k sig h = at (slice_get (keys g.program.units) k) refl
    where
      at : (o : Option Declaration) → slice_get (keys g.program.units) k ≡ o
          → (d : Declaration) × (slice_get (keys g.program.units) k ≡ Some d) × (item_sig d.item ≡ Some sig)
      at None e =
          let q : option_and_then (λ s. s) (option_map (λ (d : Declaration). item_sig d.item) None) ≡ Some sig =
          ap (λ o. option_and_then (λ s. s) (option_map (λ (d : Declaration). item_sig d.item) o)) (sym e)
          ∙ ap (option_and_then (λ s. s)) (sym (map_get (λ (d : Declaration). item_sig d.item) (keys g.program.units) k)) ∙ h in
          cc
      at (Some d) e = (
        d,
        e,
        ap (λ o. option_and_then (λ s. s) (option_map (λ (d : Declaration). item_sig d.item) o)) (sym e)
            ∙ ap (option_and_then (λ s. s)) (sym (map_get (λ (d : Declaration). item_sig d.item) (keys g.program.units) k)) ∙ h,
      )

  external_is : (k : ℕ) (sig : Sig) → sig_of W.program k ≡ Some sig → ExternalIs W k sig
  external_is k sig h =
      let s = sig_found k sig h in
      let x = external_item s.0 sig s.2 in
      let key = is_key k s.0 sig x s.1 in
      let f = fs.externals k s.0.unit x.external key in
      let l = kinds_long g.program.units in
      let z : 0 + k ≡ k = omega arith in
      record {
        known = (let b = below_of k s.0 s.1 in omega arith);
        called = one_stands (key_address bs k) sig 0 (keys g.program.units) k s.0 s.1 (ap (key_address bs) z) s.2
            (λ j d e q t.
            let o = some_sig (item_sig d.item) t in
            let y = external_item d o.0 o.1 in
            let w : 0 + j ≡ j = omega arith in
            fs.externals_differ j k d.unit s.0.unit y.external x.external (is_key j d o.0 y e) key (ap (key_address bs) (sym w) ∙ q))
            ∙ ap (λ m. Some (called_as m sig)) z;
        multiple = f.aligned (ap is_some x.has);
        not_stop = f.not_stop;
      }
    where
      below_of : (k : ℕ) (d : Declaration) → slice_get (keys g.program.units) k ≡ Some d → k < length (keys g.program.units)
      below_of k d e = get_below (keys g.program.units) k d e

  -- ---- code

  code_at : (a : ℕ) (form : Form) → IsCodeWord g bs a form → Spelt W a form
  code_at a form c =
      let wd = loaded_word g.image a in
      let off : (i : ℕ) → i < 4 → holds (a + i) g.layout.stack ≡ false = λ i h. (c.off_data i h).off_stack in
      record {
        code = record {
          below = c.below;
          multiple = c.aligned;
          runs = λ i h. run_off g.image g.layout.stack stack long (a + i) (off i h) (c.runs i h);
          is = ap decoded (word_off g.image g.layout.stack stack long a wd c.below off c.loaded) ∙ decoded_own wd _ c.spelt.word;
          not_stop = c.not_stop;
          not_called = not_called a c.not_external;
          apart = λ i h d. off_data (a + i) (c.off_data i h) d;
        };
        agreed = c.spelt.agreed;
      }

  code_words : (a : ℕ) (forms : List Form) → AreCodeWords g bs a forms → Spelts W a forms
  code_words a [] h = tt
  code_words a (f ∷ fs) h = (code_at a f h.0, code_words (a + 4) fs h.1)

  instr_is : (f i : ℕ) (x : Instr) → f < length W.program.routines → slice_get (code_of W.program f) i ≡ Some x → InstrIs W f i x
  instr_is f i x h e =
      let k = known f h in
      let ff = function_facts f k in
      let own : slice_get k.of.function.code i ≡ Some x = ap (λ c. slice_get c i) (sym (code_is f k)) ∙ e in
      let shape = (link.shapes k.of.key k.of.unit k.of.function k.of.is).each i x own in
      record {
        next = ff.next i x e;
        spelt = subst (λ t. Spelts W (place_at W f i) (forms t x (loaded_word g.image (place_at W f i)))) (same_target f i x k e)
            (code_words (place_at W f i) _ (ff.instructions i x e));
        shaped = subst (λ c. IsShaped c x) (sym (code_is f k)) (record {
          free = shape.register;
          labels = shape.labels;
          frame = shape.frame;
          range = shape.operands;
        });
        names = λ r q. (let m = meant f i x k r e q in let b = m.below in let s = m.is in omega arith);
      }

  table_word : (a x : ℕ) → facts.IsTableWord g bs a x → TableWord W a x
  table_word a x c =
      let off : (i : ℕ) → i < 4 → holds (a + i) g.layout.stack ≡ false = λ i h. (c.off_data i h).off_stack in
      record {
        below = c.below;
        loaded = λ i h. mapped_off g.image g.layout.stack stack long (a + i) (off i h) (word_flagged g.image a x c.word i h);
        is = word_off g.image g.layout.stack stack long a x c.below off c.word;
        apart = λ i h d. off_data (a + i) (c.off_data i h) d;
      }

  -- ---- keys

  key_fits : (k : ℕ) → k < length W.program.kinds → KeyFits W k (kind_at W.program.kinds k)
  key_fits k h =
      let l = kinds_long g.program.units in
      let d = get_some (keys g.program.units) k (omega arith) in
      subst (KeyFits W k) (sym (kind_is g.program.units k d.0 d.1)) (by d.0 d.1 d.0.item refl)
    where
      by : (d : Declaration) → slice_get (keys g.program.units) k ≡ Some d → (i : Item) → d.item ≡ i
          → KeyFits W k (item_kind g.program.units k i)
      by d e (OfFunction f) q =
          let n = function_number g.program.units k d.unit f (e ∙ ap (λ i. Some (record { unit = d.unit; item = i })) q) in
          (n.1, ap (address_of_key bs) n.0)
      by d e (OfVariable x) q =
          let n = variable_number g.program.units k d.unit x (e ∙ ap (λ i. Some (record { unit = d.unit; item = i })) q) in
          (n.1, ap (address_of_key bs) n.0)
      by d e (OfExternal x) q = tt

  below : (k : ℕ) → k < length W.program.kinds → (1 ≤ key_address bs k) × (key_address bs k ≤ 0xfffffff0)
  below k h =
      let l = kinds_long g.program.units in
      let d = get_some (keys g.program.units) k (omega arith) in
      fs.low k d.0.unit d.0.item d.1

  differ : (f h : ℕ) → f < length W.program.routines → h < length W.program.routines → W.function_at f ≡ W.function_at h → f ≡ h
  differ f h hf hh q =
      let a = known f hf in let b = known h hh in
      let same = fs.functions_differ a.of.key b.of.key a.of.unit b.of.unit a.of.function b.of.function a.of.is b.of.is
      (sym (function_at f a) ∙ q ∙ function_at h b) in
      function_once g.program.units f h b.of.key (a.of.number ∙ ap Some same) b.of.number

  fits : Fits W
  fits = record {
    places = λ f i h l. (let p = (function_facts f (known f h)).addresses i l in
        record { some = p.some; below = p.below; aligned = p.aligned });
    instructions = instr_is;
    tables = λ f i r labels j n h e l. table_word _ _ ((function_facts f (known f h)).tables i r labels j n e l);
    functions_differ = differ;
    keys = key_fits;
    below = below;
    externals = external_is;
    stack = layout.parts.stack;
    stop = layout.parts.stop;
    stack_open = λ a s. stack_open g.image g.layout.stack stack long a (holds_of a g.layout.stack.lo g.layout.stack.hi s.0 s.1);
  }

pub worlds_fit : WorldsFit
worlds_fit g bs stack layout link fs long = fits g bs stack layout link fs long
