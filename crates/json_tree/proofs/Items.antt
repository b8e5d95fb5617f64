-- Reading of items one after the other, as a loop does.
use Rattle.std.proofs.Common.{◌≡◌, Vec, Global, vec_len, ℕ, ◌+◌, ◌≤◌, ◌<◌, List, [], ◌∷◌, ◌++◌, length, drop, get_or, map, Result, Ok, Err}
use Rattle.std.proofs.Common.{refl, sym, ap, ◌∙◌, append_assoc}
use Rattle.std.proofs.lemmas.List.{append-nil, at_drop_more, at_drop_all, length-map}
use Rattle.serde_json.specs.Data.{Data}
use Rattle.serde_json.specs.View.{view, items_of, items_view}
use Rattle.serde_json.specs.declared.value.Value.{Value}
use Rattle.asm_syntax.specs.declared.path.Step.TheVariants.{Index}
use Rattle.json_tree.specs.declared.fault.Fault.{Fault}
use Rattle.json_tree.specs.declared.fault.ReadError.{ReadError}
use Rattle.json_tree.specs.declared.fault.ReadError.TheVariants as errors
use Rattle.json_tree.specs.Reading.{◌>>=◌, under}
use Rattle.json_tree.specs.Arrays.{elements, each_from}
use Rattle.json_tree.specs.Answers.{Gives, GivesAs}

elements_of : (ds : List Data) → elements (items_of ds) ≡ ds
elements_of [] = refl
elements_of (d ∷ ds) = ap (λ (es : List Data). d ∷ es) (elements_of ds)

pub elements_view : (vs : List Value) → elements (items_view vs) ≡ map view vs
elements_view vs = elements_of (map view vs)

pub vec_len_is : {X : Type 0} (v : Vec X Global) → vec_len v ≡ length v.items
vec_len_is v = v.ok.0

pub ruleset array_tools = (elements_view, length-map, vec_len_is)

-- what is read, behind what was read before
abbrev pub with_front : {T : Type 0} → List T → Result (List T) Fault → Result (List T) Fault
with_front front reading = reading >>= λ xs. Ok (front ++ xs)

regroup : {T : Type 0} (front : List T) (x : T) (reading : Result (List T) Fault)
    → with_front front (reading >>= λ xs. Ok (x ∷ xs)) ≡ with_front (front ++ x ∷ []) reading
regroup front x (Ok xs) = ap Ok (sym (append_assoc front (x ∷ []) xs))
regroup front x (Err fault) = refl

pub with_none : {T : Type 0} (reading : Result (List T) Fault) → with_front [] reading ≡ reading
with_none (Ok xs) = refl
with_none (Err fault) = refl

module _ {S T : Type 0} (next : S → T → S) (read : S → Data → Result T Fault) (left : S) (done : List T) (vs : List Value) (i : ℕ)
    (total : Result (List T) Fault) where
  -- the item v, which the code calls the item number k
  module _ (k : ℕ) (v : Value) (lt : i < length vs) (is : v ≡ get_or vs i v) (at : k ≡ i) where
    rest : T → Result (List T) Fault
    rest x = each_from next read (next left x) (i + 1) (map view (drop (i + 1) vs))

    at_item : each_from next read left i (map view (drop i vs)) ≡ (under (Index k) (read left (view v)) >>= λ x. rest x >>= λ xs. Ok
        (x ∷ xs))
    unfolding each_from rest
    at_item = at_drop_more (λ ws. each_from next read left i (map view ws)) vs i v lt ∙ rw (← is, at) refl

    pub goes_on : (x : T) → under (Index k) (read left (view v)) ≡ Ok x
        → with_front done (each_from next read left i (map view (drop i vs))) ≡ total
        → with_front (done ++ x ∷ []) (each_from next read (next left x) (i + 1) (map view (drop (i + 1) vs))) ≡ total
    unfolding rest
    goes_on x h so_far =
        let one : each_from next read left i (map view (drop i vs)) ≡ (rest x >>= λ xs. Ok (x ∷ xs)) = at_item ∙ rw h refl in
        sym (ap (with_front done) one ∙ regroup done x (rest x)) ∙ so_far

    pub ends : {X : Type 0} (show : X → List T) (e : ReadError) → Gives {T = T} (Err e) (under (Index k) (read left (view v)))
        → with_front done (each_from next read left i (map view (drop i vs))) ≡ total → GivesAs show (Err e) total
    ends show errors.Memory h so_far = tt
    ends show (errors.Fault fault) h so_far =
        let one : each_from next read left i (map view (drop i vs)) ≡ Err fault = at_item ∙ rw h refl in
        sym so_far ∙ ap (with_front done) one

  pub is_done : length vs ≤ i → with_front done (each_from next read left i (map view (drop i vs))) ≡ total → total ≡ Ok done
  unfolding each_from
  is_done le so_far = sym so_far ∙ at_drop_all (λ ws. with_front done (each_from next read left i (map view ws))) vs i le
      ∙ ap Ok (append-nil done)
