-- Uses that are noted one after another are those of the whole.
use Rattle.std.proofs.Common.{◌≡◌, ℕ, ◌+◌, ◌<◌, List, [], ◌∷◌, ◌++◌, length, get_or, take, refl, sym, ◌∙◌, ap, subst, arith, append_assoc}
use Rattle.std.proofs.Common.{append-nil}
use Rattle.std.proofs.lemmas.List.{take_more}
use Rattle.std.proofs.lemmas.List.Sums.{sum_by_more, sum_by-cons}
use Rattle.asm_syntax.specs.declared.instr.Instr.{Instr}
use Rattle.asm_syntax.specs.declared.unit.Init.{Init}
use Rattle.asm_syntax.specs.Sizes.{init_size, variable_size}
use Rattle.image_model.specs.Image.{Image}
use Rattle.layout_model.specs.Layouts.{Layout}
use Rattle.code_model.specs.Addresses.{address_after, code_end}
use Rattle.link_model.specs.Candidates.{Inputs}
use Rattle.link_model.specs.Uses.{Use, instr_uses, code_uses, init_uses, data_uses}
use Rattle.symbol_bind.specs.declared.address_set.AddressSet.{AddressSet}
use Rattle.symbol_bind.specs.Open.{AreOpen}

code_push : (g : Inputs) (u a : ℕ) (xs : List Instr) (x : Instr)
    → code_uses g u a (xs ++ x ∷ []) ≡ code_uses g u a xs ++ instr_uses g u (code_end g.image a xs) x
code_push g u a [] x = append-nil _
code_push g u a (y ∷ ys) x =
    ap (λ us. instr_uses g u a y ++ us) (code_push g u (address_after g.image a y) ys x) ∙ sym (append_assoc (instr_uses g u a y) _ _)

end_push : (v : Image) (a : ℕ) (xs : List Instr) (x : Instr) → code_end v a (xs ++ x ∷ []) ≡ address_after v (code_end v a xs) x
end_push v a [] x = refl
end_push v a (y ∷ ys) x = end_push v (address_after v a y) ys x

one_more : {X : Type 0} (xs : List X) (i : ℕ) (x : X) → i < length xs → x ≡ get_or xs i x → take (i + 1) xs ≡ take i xs ++ x ∷ []
one_more xs i x lt is = take_more xs i x lt ∙ ap (λ y. take i xs ++ y ∷ []) (sym is)

pub code_more : (g : Inputs) (u a : ℕ) (xs : List Instr) (i : ℕ) (x : Instr) (p : ℕ) → i < length xs → x ≡ get_or xs i x
    → p ≡ code_end g.image a (take i xs) → code_uses g u a (take (i + 1) xs) ≡ code_uses g u a (take i xs) ++ instr_uses g u p x
code_more g u a xs i x p lt is place =
    ap (code_uses g u a) (one_more xs i x lt is)
    ∙ (code_push g u a (take i xs) x ∙ ap (λ q. code_uses g u a (take i xs) ++ instr_uses g u q x) (sym place))

pub end_more : (v : Image) (a : ℕ) (xs : List Instr) (i : ℕ) (x : Instr) (p : ℕ) → i < length xs → x ≡ get_or xs i x
    → p ≡ code_end v a (take i xs) → address_after v p x ≡ code_end v a (take (i + 1) xs)
end_more v a xs i x p lt is place =
    ap (λ q. address_after v q x) place ∙ (sym (end_push v a (take i xs) x) ∙ sym (ap (code_end v a) (one_more xs i x lt is)))

data_push : (g : Inputs) (u a : ℕ) (xs : List Init) (x : Init)
    → data_uses g u a (xs ++ x ∷ []) ≡ data_uses g u a xs ++ init_uses g u (a + variable_size xs) x
data_push g u a [] x = let e : a + 0 ≡ a = omega arith in rw e (append-nil _)
data_push g u a (y ∷ ys) x =
    let e : a + variable_size (y ∷ ys) ≡ a + init_size y + variable_size ys = omega (arith, sum_by-cons init_size y ys) in
    ap (λ us. init_uses g u a y ++ us) (data_push g u (a + init_size y) ys x)
    ∙ (sym (append_assoc (init_uses g u a y) (data_uses g u (a + init_size y) ys) _)
    ∙ ap (λ p. data_uses g u a (y ∷ ys) ++ init_uses g u p x) (sym e))

pub data_more : (g : Inputs) (u a : ℕ) (xs : List Init) (i : ℕ) (x : Init) (p : ℕ) → i < length xs → x ≡ get_or xs i x
    → p ≡ a + variable_size (take i xs) → data_uses g u a (take (i + 1) xs) ≡ data_uses g u a (take i xs) ++ init_uses g u p x
data_more g u a xs i x p lt is place =
    ap (data_uses g u a) (one_more xs i x lt is)
    ∙ (data_push g u a (take i xs) x ∙ ap (λ q. data_uses g u a (take i xs) ++ init_uses g u q x) (sym place))

pub size_more : (a : ℕ) (xs : List Init) (i : ℕ) (x : Init) (p n : ℕ) → i < length xs → x ≡ get_or xs i x → n ≡ init_size x
    → p ≡ a + variable_size (take i xs) → p + n ≡ a + variable_size (take (i + 1) xs)
size_more a xs i x p n lt is size place =
    let e : init_size (get_or xs i x) ≡ n = ap init_size (sym is) ∙ sym size in
    omega (arith, sum_by_more init_size xs i x lt, e, place)

-- what two walks note, one behind the other
pub noted_more : (l : Layout) (us first next both : List Use) (sets : List AddressSet) → both ≡ first ++ next
    → AreOpen l ((us ++ first) ++ next) sets → AreOpen l (us ++ both) sets
noted_more l us first next both sets is known =
    let P : List Use → Type 0 = λ z. AreOpen l z sets in
    subst P (append_assoc us first next ∙ ap (λ w. us ++ w) (sym is)) known

pub noted_none : (l : Layout) (us : List Use) (sets : List AddressSet) → AreOpen l us sets → AreOpen l (us ++ []) sets
noted_none l us sets known = let P : List Use → Type 0 = λ z. AreOpen l z sets in subst P (sym (append-nil us)) known
