-- Words of an image, one after the other.
use Rattle.std.proofs.Common.{◌≡◌, ℕ, zero, suc, ◌+◌, ◌-◌, ◌*◌, ◌<◌, ◌≤◌, ◌&&◌, List, [], ◌∷◌, length, take, refl, ap, arith}
use Rattle.std.specs.Prelude.{is_some}
use Rattle.image_model.specs.Image.{Image}
use Rattle.image_model.specs.Loaded.{word_at}
use Rattle.code_model.specs.Addresses.{loaded_word, words_from, are_loaded}

pub loaded_more : (v : Image) (t n i : ℕ) → i < n →
    are_loaded v (t + 4 * i) (n - i) ≡ (is_some (word_at v (t + 4 * i)) && are_loaded v (t + 4 * (i + 1)) (n - (i + 1)))
loaded_more v t n i lt =
    let e : n - i ≡ suc (n - (i + 1)) = omega arith in
    let on : t + 4 * i + 4 ≡ t + 4 * (i + 1) = omega arith in
    rw e (rw on refl)

pub take_words : (v : Image) (a n k : ℕ) → n ≤ k → take n (words_from v a k) ≡ words_from v a n
take_words v a zero k le = refl
take_words v a (suc n) zero le = absurd (omega arith)
take_words v a (suc n) (suc k) le = ap (λ (ws : List ℕ). loaded_word v a ∷ ws) (take_words v (a + 4) n k (omega arith))

pub five_are : (v : Image) (a : ℕ) →
    words_from v a 5
    ≡ loaded_word v a ∷ loaded_word v (a + 4) ∷ loaded_word v (a + 8) ∷ loaded_word v (a + 12) ∷ loaded_word v (a + 16) ∷ []
five_are v a =
    let two : a + 4 + 4 ≡ a + 8 = omega arith in
    let three : a + 8 + 4 ≡ a + 12 = omega arith in
    let four : a + 12 + 4 ≡ a + 16 = omega arith in
    rw (two, three, four) refl

pub words_length : (v : Image) (a n : ℕ) → length (words_from v a n) ≡ n
words_length v a zero = refl
words_length v a (suc n) = let h = words_length v (a + 4) n in omega arith
