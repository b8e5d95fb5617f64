-- The instruction of a word.
use Rattle.std.proofs.Common.{◌≡◌, ℕ, true, Option, Some, None, refl, ◌∙◌, ap, sym, inl, inr}
use Rattle.std.specs.Prelude.{◌==◌, if◌then◌else◌, option_and_then, IfSome}
use Rattle.std.specs.Cmp.Lexicographic.{bytes_decides}
use Rattle.std.proofs.lemmas.Bool.{and_parts, and_from, eqb-true, eq-eqb, cases_Bool}
use Rattle.ppc_decode.specs.declared.machine.Machine.{Machine}
use Rattle.ppc_decode.specs.Word.{fits, word_of, is_word, Encodes}
use Rattle.ppc_decode.specs.Decoding.{proposed, decoded, DecodesExactly}
use Rattle.ppc_decode.specs.Text.{mnemonic_of, has_mnemonic_of}
use Rattle.ppc_decode.proofs.Proposals.{word_proposes}

is_word_from : (w : ℕ) (i : Machine) → Encodes w i → is_word w i ≡ true
is_word_from w i h = and_from (fits i) (w == word_of i) h.0 (eq-eqb w (word_of i) h.1)

is_word_parts : (w : ℕ) (i : Machine) → is_word w i ≡ true → Encodes w i
is_word_parts w i h = let t = and_parts (fits i) (w == word_of i) h in (t.0, eqb-true w (word_of i) t.1)

pub decoded_own : (w : ℕ) (i : Machine) → Encodes w i → decoded w ≡ Some i
unfolding decoded
decoded_own w i h =
    let p : proposed w ≡ Some i = ap proposed h.1 ∙ word_proposes i h.0 in
    rw p (rw (is_word_from w i h) refl)

confirmed : (w : ℕ) (i : Machine) (p : Option Machine) → option_and_then (λ m. if is_word w m then Some m else None) p ≡ Some i
    → Encodes w i
confirmed w i None h = absurd (cc)
confirmed w i (Some m) h = elim (cases_Bool (is_word w m)) [
  | inl t ↦ (let same : Some m ≡ Some i = rw t at h in let e : m ≡ i = cc in rw (← e) (is_word_parts w m t))
  | inr f ↦ absurd (let n : None ≡ Some i = rw f at h in cc)
]

pub encodes_decoded : (w : ℕ) (r : Option Machine) → r ≡ decoded w → IfSome r (Encodes w)
unfolding decoded
encodes_decoded w None h = tt
encodes_decoded w (Some m) h = confirmed w m (proposed w) (sym h)

pub decodes_exactly : DecodesExactly
unfolding decoded
decodes_exactly w i = (confirmed w i (proposed w), decoded_own w i)

-- an instruction's own word has its spelling
pub own_mnemonic : (m : Machine) (w : ℕ) → is_word w m ≡ true → has_mnemonic_of m w ≡ true
own_mnemonic m w h =
    let t = is_word_parts w m h in
    rw (decoded_own w m t) (rw t.0 ((bytes_decides (mnemonic_of m) (mnemonic_of m)).1 refl))
