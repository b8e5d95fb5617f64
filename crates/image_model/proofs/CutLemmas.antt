-- The fields of the file header, where the file is cut off behind them.
use Rattle.std.proofs.Common.{◌≡◌, ℕ, ◌+◌, ◌≤◌, List, length, take, get_or, arith, inl, inr}
use Rattle.std.proofs.lemmas.List.{get_or-take, length-take}
use Rattle.image_model.specs.Bytes.{half, word}
use Rattle.image_model.specs.FileHeader.{e_phoff, e_phnum, e_shoff, e_shnum}
use Rattle.image_model.specs.Cuts.{CutImagesAreNone}
use Rattle.image_model.proofs.HeaderFacts.{HeadersLie, headers_lie}

half-take : (b : List ℕ) (n at : ℕ) → at + 2 ≤ n → half (take n b) at ≡ half b at
unfolding half
half-take b n at h =
    let one : get_or (take n b) at 0 ≡ get_or b at 0 = get_or-take n b at 0 (omega arith) in
    let two : get_or (take n b) (at + 1) 0 ≡ get_or b (at + 1) 0 = get_or-take n b (at + 1) 0 (omega arith) in
    rw (one, two)

word-take : (b : List ℕ) (n at : ℕ) → at + 4 ≤ n → word (take n b) at ≡ word b at
unfolding word
word-take b n at h = rw (half-take b n at (omega arith), half-take b n (at + 2) (omega arith))

pub cut_images_are_none : CutImagesAreNone
cut_images_are_none b v w n whole ends cut =
    let c : HeadersLie (take n b) = headers_lie (take n b) cut.passes in
    let most : length (take n b) ≤ n = omega (arith, length-take n b) in
    let phoff : e_phoff (take n b) ≡ e_phoff b = word-take b n 28 (omega arith) in
    let shoff : e_shoff (take n b) ≡ e_shoff b = word-take b n 32 (omega arith) in
    let phnum : e_phnum (take n b) ≡ e_phnum b = half-take b n 44 (omega arith) in
    let shnum : e_shnum (take n b) ≡ e_shnum b = half-take b n 48 (omega arith) in
    elim ends [
      | inl file ↦ omega arith
      | inr more ↦ elim more [
        | inl sections ↦ omega (arith, c.sections_lie)
        | inr programs ↦ omega (arith, c.programs_lie)
      ]
    ]
