-- Where each definition joins with the first of its name, it joins with all earlier ones.
use Rattle.std.proofs.Common.{◌≡◌, ℕ, Bool, true, false, ◌&&◌, ◌||◌, List, [], ◌∷◌, ◌++◌, cond, refl, sym, ap, ◌∙◌, arith}
use Rattle.std.specs.Prelude.{not, Option, Some, None}
use Rattle.std.specs.List.{list_all}
use Rattle.std.specs.Map.{lookup}
use Rattle.std.specs.Option.{option_map_or, option_or, option_eq}
use Rattle.std.specs.Str.{bytes_eq}
use Rattle.std.proofs.lemmas.Bool.Decides.{nat_tests}
use Rattle.std.proofs.lemmas.List.Folds.{list_all-append}
use Rattle.std.proofs.lemmas.Slice.Eq.{bytes_eq-Decides}
use Rattle.asm_syntax.specs.declared.unit.Sig.{Sig}
use Rattle.asm_syntax.specs.Sigs.{same_sig}
use Rattle.asm_syntax.proofs.SigLemmas.{sigs_equal}
use Rattle.asm_program.specs.declared.repeats.Rule.{Rule}
use Rattle.asm_program.specs.declared.repeats.Rule.TheVariants.{Definitions, Externals}
use Rattle.asm_program.specs.Repeats.{has_same_sig, alike_by}
use Rattle.link_model.specs.Program.{Item, OfFunction, OfVariable, OfExternal, Declaration, name_of, joins}
use Rattle.asm_program.proofs.NameSets.{bytes_eq_swap}

-- the first declarations of each name stand for all earlier ones
abbrev pub StandFor : (Item → Item → Bool) → List (List ℕ × Declaration) → List Declaration → Type 0
StandFor alike firsts earlier = (v : List ℕ) (p : Item)
    → list_all (λ e. not (bytes_eq (name_of e) v) || alike e.item p) earlier
    ≡ option_map_or (λ (f : Declaration). alike f.item p) (lookup (bytes_eq v) firsts) true

-- two that are like a third are alike
abbrev pub Meet : (Item → Item → Bool) → Type 0
Meet alike = (a b c : Item) → alike a b ≡ true → alike a c ≡ alike b c

joins_meet : Meet joins
joins_meet (OfVariable v) (OfVariable w) (OfVariable x) h = grind (arith, nat_tests)
joins_meet (OfVariable v) (OfVariable w) (OfFunction f) h = refl
joins_meet (OfVariable v) (OfVariable w) (OfExternal f) h = refl
joins_meet (OfVariable v) (OfFunction f) c h = cc
joins_meet (OfVariable v) (OfExternal f) c h = cc
joins_meet (OfFunction f) b c h = cc
joins_meet (OfExternal f) b c h = cc

-- an equal signature may stand for the other
sig_meet : Meet has_same_sig
sig_meet (OfExternal x) (OfExternal y) (OfExternal z) h = same_options x.sig y.sig z.sig h
  where
    same_options : (a b c : Option Sig) → option_eq same_sig a b ≡ true → option_eq same_sig a c ≡ option_eq same_sig b c
    same_options None None c h = refl
    same_options None (Some t) c h = cc
    same_options (Some s) None c h = cc
    same_options (Some s) (Some t) c h = ap (λ r. option_eq same_sig (Some r) c) ((sigs_equal s t (same_sig s t) refl).0 h)
sig_meet (OfExternal x) (OfExternal y) (OfFunction f) h = refl
sig_meet (OfExternal x) (OfExternal y) (OfVariable f) h = refl
sig_meet (OfExternal x) (OfFunction f) c h = cc
sig_meet (OfExternal x) (OfVariable f) c h = cc
sig_meet (OfFunction f) b c h = cc
sig_meet (OfVariable f) b c h = cc

pub alike_meet : (rule : Rule) → Meet (alike_by rule)
alike_meet Definitions = joins_meet
alike_meet Externals = sig_meet

-- all: those before are like p; b: the new one d has the name; o: the first of the name
more : (alike : Item → Item → Bool) → Meet alike → (all b : Bool) (d : Declaration) (o : Option Declaration) (p : Item)
    → all ≡ option_map_or (λ (f : Declaration). alike f.item p) o true
    → (b ≡ true → option_map_or (λ (f : Declaration). alike f.item d.item) o true ≡ true)
    → (all && ((not b || alike d.item p) && true)) ≡ option_map_or (λ (f : Declaration). alike f.item p)
    (option_or o (cond b (Some d) None)) true
more alike meet all true d None p h k = rw h (and_true (alike d.item p))
  where
    and_true : (b : Bool) → (b && true) ≡ b
    and_true true = refl
    and_true false = refl
more alike meet all true d (Some f) p h k = rw (h, sym (meet f.item d.item p (k refl))) (twice (alike f.item p))
  where
    twice : (b : Bool) → (b && (b && true)) ≡ b
    twice true = refl
    twice false = refl
more alike meet all false d None p h k = rw h refl
more alike meet all false d (Some f) p h k = rw h (and_true (alike f.item p))
  where
    and_true : (b : Bool) → (b && true) ≡ b
    and_true true = refl
    and_true false = refl

-- one more that is like those before it
pub stand_more : (alike : Item → Item → Bool) → Meet alike → (firsts others : List (List ℕ × Declaration))
    (earlier : List Declaration) (d : Declaration)
    → StandFor alike firsts earlier
    → option_map_or (λ (f : Declaration). alike f.item d.item) (lookup (bytes_eq (name_of d)) firsts) true ≡ true
    → ((v : List ℕ) → lookup (bytes_eq v) others ≡ option_or (lookup (bytes_eq v) firsts) (cond (bytes_eq v (name_of d)) (Some d) None))
    → StandFor alike others (earlier ++ d ∷ [])
stand_more alike meet firsts others earlier d stand like added v p =
    list_all-append (λ e. not (bytes_eq (name_of e) v) || alike e.item p) earlier (d ∷ [])
    ∙ (more alike meet (list_all (λ e. not (bytes_eq (name_of e) v) || alike e.item p) earlier) (bytes_eq (name_of d) v) d
    (lookup (bytes_eq v) firsts) p (stand v p)
    (λ t. ap (λ n. option_map_or (λ (f : Declaration). alike f.item d.item) (lookup (bytes_eq n) firsts) true)
    (sym ((bytes_eq-Decides (name_of d) v).0 t)) ∙ like)
    ∙ (ap (λ b. option_map_or (λ (f : Declaration). alike f.item p) (option_or (lookup (bytes_eq v) firsts) (cond b (Some d) None)) true)
    (bytes_eq_swap (name_of d) v)
    ∙ ap (λ o. option_map_or (λ (f : Declaration). alike f.item p) o true) (sym (added v))))
