-- Tests of externals alone: those that are like their first are like all before them.
use Rattle.std.proofs.Common.{◌≡◌, ℕ, zero, suc, ◌+◌, Bool, true, false, ◌&&◌, ◌||◌, not, List, [], ◌∷◌, map, take, cond, refl}
use Rattle.std.specs.Prelude.{filter}
use Rattle.std.specs.List.{list_all, enumerate_from}
use Rattle.std.specs.Str.{bytes_eq}
use Rattle.std.proofs.lemmas.Bool.{and_parts}
use Rattle.ordered_tests.specs.Checks.{check}
use Rattle.link_model.specs.declared.link_error.LinkError.{LinkError}
use Rattle.link_model.specs.Program.{Item, OfFunction, OfVariable, OfExternal, Declaration, name_of, is_external}
use Rattle.link_model.specs.LinkTests.{is_like_earlier, repeat_tests, same_external}
use Rattle.asm_program.specs.Repeats.{has_same_sig}

abbrev external : Declaration → Bool
external d = is_external d.item

same_item : (a b : Item) → is_external a ≡ true → is_external b ≡ true → has_same_sig a b ≡ same_external a b
same_item (OfExternal x) (OfExternal y) h k = refl
same_item (OfExternal x) (OfFunction y) h k = cc
same_item (OfExternal x) (OfVariable y) h k = cc
same_item (OfFunction x) b h k = cc
same_item (OfVariable x) b h k = cc

like_is : (earlier : List Declaration) (d : Declaration) → list_all external earlier ≡ true → external d ≡ true
    → is_like_earlier has_same_sig earlier d ≡ is_like_earlier same_external earlier d
like_is [] d h k = refl
like_is (e ∷ es) d h k =
    let t = and_parts (external e) (list_all external es) h in
    λ i. (not (bytes_eq (name_of e) (name_of d)) || same_item e.item d.item t.0 k i) && like_is es d t.1 k i

all_taken : (k : ℕ) (ds : List Declaration) → list_all external ds ≡ true → list_all external (take k ds) ≡ true
all_taken zero [] h = refl
all_taken zero (d ∷ ds) h = refl
all_taken (suc k) [] h = refl
all_taken (suc k) (d ∷ ds) h =
    let t = and_parts (external d) (list_all external ds) h in rw (t.0, all_taken k ds t.1) refl

tests_from : (fault : Declaration → LinkError) (ds : List Declaration) → list_all external ds ≡ true
    → (k : ℕ) (xs : List Declaration) → list_all external xs ≡ true
    → map (λ (d : ℕ × Declaration). check (is_like_earlier has_same_sig (take d.0 ds) d.1) (fault d.1)) (enumerate_from k xs)
    ≡ map (λ (d : ℕ × Declaration). check (is_like_earlier same_external (take d.0 ds) d.1) (fault d.1)) (enumerate_from k xs)
tests_from fault ds all k [] h = refl
tests_from fault ds all k (x ∷ xs) h =
    let t = and_parts (external x) (list_all external xs) h in
    λ i. check (like_is (take k ds) x (all_taken k ds all) t.0 i) (fault x) ∷ tests_from fault ds all (k + 1) xs t.1 i

kept_step : (b : Bool) (x : Declaration) (ys : List Declaration) → external x ≡ b → list_all external ys ≡ true
    → list_all external (cond b (x ∷ ys) ys) ≡ true
kept_step true x ys e h = rw (e, h) refl
kept_step false x ys e h = h

all_kept : (ds : List Declaration) → list_all external (filter external ds) ≡ true
all_kept [] = refl
all_kept (d ∷ ds) = kept_step (external d) d (filter external ds) refl (all_kept ds)

pub externals_alike : (fault : Declaration → LinkError) (ds : List Declaration)
    → repeat_tests has_same_sig fault (filter (λ (d : Declaration). is_external d.item) ds)
    ≡ repeat_tests same_external fault (filter (λ (d : Declaration). is_external d.item) ds)
externals_alike fault ds = tests_from fault (filter external ds) (all_kept ds) 0 (filter external ds) (all_kept ds)
