-- The addresses of external keys, one key after another.
use Rattle.std.proofs.Common.{◌≡◌, ℕ, zero, suc, ◌+◌, ◌<◌, Bool, true, false, List, [], ◌∷◌, ◌++◌, take, Some, refl, sym, ap, ◌∙◌, subst}
use Rattle.std.proofs.Common.{arith}
use Rattle.std.specs.Prelude.{slice_get, ◌||◌, ◌&&◌, ◌==◌}
use Rattle.std.specs.List.{list_any, enumerate_from}
use Rattle.std.proofs.lemmas.List.Folds.{list_any-append}
use Rattle.ordered_tests.proofs.Lists.{number_get}
use Rattle.elf_view.proofs.ByAddressLemmas.{take_one}
use Rattle.asm_syntax.specs.declared.unit.External.{External}
use Rattle.link_model.specs.Program.{Item, OfFunction, OfVariable, OfExternal, Declaration, is_external, keys}
use Rattle.link_model.specs.Candidates.{Inputs}
use Rattle.link_model.specs.Binding.{numbered_keys, key_address}
use Rattle.link_model.specs.Passes.{is_external_at}
use Rattle.key_passes.specs.Externals.{AreSeen}

or_none : (b : Bool) → (b || false) ≡ b
or_none true = refl
or_none false = refl

or_turn : (a b : Bool) → (a || (b || false)) ≡ (b || a)
or_turn true true = refl
or_turn true false = refl
or_turn false true = refl
or_turn false false = refl

any_more : (g : Inputs) (p : ℕ × Declaration → Bool) (k : ℕ) (d : Declaration) → slice_get (keys g.program.units) k ≡ Some d
    → list_any p (take (k + 1) (numbered_keys g)) ≡ (p (k, d) || list_any p (take k (numbered_keys g)))
any_more g p k d here =
    let at : slice_get (numbered_keys g) k ≡ Some (k, d) =
    number_get 0 (keys g.program.units) k d here ∙ ap (λ (n : ℕ). Some (n, d)) (omega arith) in
    ap (list_any p) (take_one (numbered_keys g) k (k, d) at)
    ∙ (list_any-append p (take k (numbered_keys g)) ((k, d) ∷ []) ∙ or_turn (list_any p (take k (numbered_keys g))) (p (k, d)))

-- one more key, an external with this address
pub seen_more : (g : Inputs) (bs : List ℕ) (k : ℕ) (d : Declaration) (seen after : ℕ → Bool) → slice_get (keys g.program.units) k ≡ Some d
    → is_external d.item ≡ true
    → ((b : ℕ) → after b ≡ (key_address bs k == b || seen b))
    → AreSeen g bs k seen → AreSeen g bs (k + 1) after
seen_more g bs k d seen after here external added so_far b =
    added b
    ∙ (ap (λ r. key_address bs k == b || r) (so_far b)
    ∙ (ap (λ e. (e && (key_address bs k == b)) || list_any (is_external_at bs b) (take k (numbered_keys g))) (sym external)
    ∙ sym (any_more g (is_external_at bs b) k d here)))

-- one more key, which is no external
pub seen_same : (g : Inputs) (bs : List ℕ) (k : ℕ) (d : Declaration) (seen : ℕ → Bool) → slice_get (keys g.program.units) k ≡ Some d
    → is_external d.item ≡ false → AreSeen g bs k seen → AreSeen g bs (k + 1) seen
seen_same g bs k d seen here other so_far b =
    so_far b
    ∙ (ap (λ e. (e && (key_address bs k == b)) || list_any (is_external_at bs b) (take k (numbered_keys g))) (sym other)
    ∙ sym (any_more g (is_external_at bs b) k d here))
