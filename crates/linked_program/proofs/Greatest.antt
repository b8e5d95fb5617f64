-- The greatest alignment of a name, one declaration after another.
use Rattle.std.proofs.Common.{◌≡◌, ℕ, ◌+◌, ◌<◌, ◌≤◌, Bool, true, false, List, [], ◌∷◌, ◌++◌, length, get_or, take, cond, refl, sym, ◌∙◌, ap}
use Rattle.std.proofs.Common.{arith, Option, Some}
use Rattle.std.specs.Prelude.{max, filter, fold}
use Rattle.std.specs.Option.{unwrap_or}
use Rattle.std.specs.Map.{lookup}
use Rattle.std.proofs.lemmas.List.Elements.{filter_more}
use Rattle.asm_syntax.specs.declared.unit.Unit.{Unit}
use Rattle.link_model.specs.Program.{Declaration, declarations, item_alignment, key_alignment}
use Rattle.asm_program.specs.Scopes.{is_same, is_of, scoped_name}
use Rattle.asm_program.proofs.ScopedNames.{key_is, same_name}
use Rattle.linked_program.specs.Alignments.{greatest}

fold_end : {X : Type 0} (f : ℕ → X → ℕ) (a : ℕ) (xs ys : List X) → fold f a (xs ++ ys) ≡ fold f (fold f a xs) ys
fold_end f a [] ys = refl
fold_end f a (x ∷ xs) ys = fold_end f (f a x) xs ys

end_step : (b : Bool) (a : ℕ) (d : Declaration)
    → fold (λ a e. max a (item_alignment e.item)) a (cond b (d ∷ []) []) ≡ cond b (max a (item_alignment d.item)) a
end_step true a d = refl
end_step false a d = refl

greatest_more : (q : ℕ × List ℕ) (ds : List Declaration) (i : ℕ) (e : Declaration) → i < length ds
    → greatest q (take (i + 1) ds)
    ≡ cond (is_of q (get_or ds i e)) (max (greatest q (take i ds)) (item_alignment (get_or ds i e).item)) (greatest q (take i ds))
greatest_more q ds i e lt =
    let d = get_or ds i e in
    ap (fold (λ a e. max a (item_alignment e.item)) 1) (filter_more (is_of q) ds i e lt)
    ∙ (fold_end (λ a e. max a (item_alignment e.item)) 1 (filter (is_of q) (take i ds)) (cond (is_of q d) (d ∷ []) [])
    ∙ end_step (is_of q d) (greatest q (take i ds)) d)

known_step : (b : Bool) (o : Option ℕ) (m g before al : ℕ) → (b ≡ true → before ≡ g) → m ≡ max before al → unwrap_or o 1 ≡ g
    → unwrap_or (cond b (Some m) o) 1 ≡ cond b (max g al) g
known_step true o m g before al h e k = e ∙ ap (λ n. max n al) (h refl)
known_step false o m g before al h e k = k

-- one more declaration with the alignment al, where `before` was known of its name
pub known_more : (ds : List Declaration) (i : ℕ) (e : Declaration) (d : Declaration)
    (numbers others : List ((ℕ × List ℕ) × ℕ)) (before m : ℕ)
    → i < length ds → get_or ds i e ≡ d
    → ((q : ℕ × List ℕ) → unwrap_or (lookup (is_same q) numbers) 1 ≡ greatest q (take i ds))
    → before ≡ unwrap_or (lookup (is_same (scoped_name d)) numbers) 1 → m ≡ max before (item_alignment d.item)
    → ((q : ℕ × List ℕ) → lookup (is_same q) others ≡ cond (is_same q (scoped_name d)) (Some m) (lookup (is_same q) numbers))
    → (q : ℕ × List ℕ) → unwrap_or (lookup (is_same q) others) 1 ≡ greatest q (take (i + 1) ds)
known_more ds i e d numbers others before m lt at known b is set q =
    ap (λ o. unwrap_or o 1) (set q)
    ∙ (known_step (is_same q (scoped_name d)) (lookup (is_same q) numbers) m (greatest q (take i ds)) before (item_alignment d.item)
    (λ t. b ∙ (known (scoped_name d) ∙ ap (λ r. greatest r (take i ds)) (sym (same_name q (scoped_name d) t)))) is (known q)
    ∙ (ap (λ d. cond (is_of q d) (max (greatest q (take i ds)) (item_alignment d.item)) (greatest q (take i ds))) (sym at)
    ∙ sym (greatest_more q ds i e lt)))

small_step : (b : Bool) (o : Option ℕ) (m : ℕ) → m ≤ 255 → unwrap_or o 1 ≤ 255 → unwrap_or (cond b (Some m) o) 1 ≤ 255
small_step true o m h k = h
small_step false o m h k = k

pub small_more : (d : Declaration) (numbers others : List ((ℕ × List ℕ) × ℕ)) (before m : ℕ)
    → ((q : ℕ × List ℕ) → unwrap_or (lookup (is_same q) numbers) 1 ≤ 255)
    → before ≡ unwrap_or (lookup (is_same (scoped_name d)) numbers) 1 → m ≡ max before (item_alignment d.item) → item_alignment d.item ≤ 255
    → ((q : ℕ × List ℕ) → lookup (is_same q) others ≡ cond (is_same q (scoped_name d)) (Some m) (lookup (is_same q) numbers))
    → (q : ℕ × List ℕ) → unwrap_or (lookup (is_same q) others) 1 ≤ 255
small_more d numbers others before m small b is al set q =
    let one = small (scoped_name d) in
    let fits : m ≤ 255 = omega (arith, b, is, al, one) in
    rw (set q) (small_step (is_same q (scoped_name d)) (lookup (is_same q) numbers) m fits (small q))

-- ---- the alignment of a key

pub key_greatest : (units : List Unit) (d : Declaration) → greatest (scoped_name d) (declarations units) ≡ key_alignment units d
unfolding key_alignment
key_greatest units d =
    λ i. fold (λ a e. max a (item_alignment e.item)) 1 (filter (λ e. sym (key_is d e) i) (declarations units))

grows : (a : ℕ) (ds : List Declaration) → a ≤ fold (λ a e. max a (item_alignment e.item)) a ds
grows a [] = omega arith
grows a (d ∷ ds) = let rest = grows (max a (item_alignment d.item)) ds in omega (arith, rest)

pub positive : (q : ℕ × List ℕ) (ds : List Declaration) → 0 < greatest q ds
positive q ds = let rest = grows 1 (filter (is_of q) ds) in omega (arith, rest)
