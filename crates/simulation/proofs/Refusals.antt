-- From the refusal of one step to that of all.
use Rattle.std.proofs.Common.{◌≡◌, ℕ, List, Ok, Err, Result, Option, Some, None, refl, sym, subst, ap, ◌∙◌}
use Rattle.std.specs.Prelude.{⊤, IfOk, IfErr}
use Rattle.ordered_tests.specs.Steps.{◌>>=◌, ◌>>◌, all_pass}
use Rattle.ordered_tests.specs.Answers.{IsTold}
use Rattle.image_model.specs.Image.{Image}
use Rattle.layout_model.specs.Layouts.{Layout}
use Rattle.asm_syntax.specs.declared.unit.Unit as syntax
use Rattle.link_model.specs.declared.link_error.LinkError.{LinkError}
use Rattle.link_model.specs.Candidates.{Inputs}
use Rattle.link_model.specs.Program.{Program}
use Rattle.machine_model.specs.Faithful.{Faithful}
use Rattle.link_model.specs.LinkTests.{link_tests}
use Rattle.link_model.specs.Account.{Account}
use Rattle.judge_model.specs.Refused.{Refused, told}
use Rattle.judge_model.specs.Judge.{or_refused, layout_in, image_in, units_in, link_refused, linked, inputs_of, IsAccount}
use Rattle.simulation.specs.declared.judge.JudgeError.{JudgeError}
use Rattle.simulation.specs.declared.judge.JudgeError.TheVariants.{Refused as Refusing, No, Memory}
use Rattle.simulation.specs.Judged.{Tells, IsRefusedBy, Refuses, IsJudgedBy, IsJudgedOf, IsAccountOf, IsFaithful, IsFaithfulOf}
use Rattle.simulation.specs.Judged.{after_reading}

-- ---- linking

refused_as : {T : Type 0} (x : Refused) (j : JudgeError) (due : Result T Refused) → due ≡ Err x → Refuses x j → IsRefusedBy due j
refused_as x (Refusing r) due e h = subst (λ o. Tells o due) (sym h) e
refused_as x (No f) due e h = absurd h
refused_as x Memory due e h = tt

pub refused_link : {P : Type 0} (p : P) (o : Option LinkError) (t : Result ⊤ LinkError) (units : List syntax.Unit)
    (entry : List ℕ) (j : JudgeError)
    → IsTold {T = P} o (t >> Ok p) → ((x : LinkError) → o ≡ Some x → Refuses (link_refused units entry x) j) → (o ≡ None → j ≡ Memory)
    → IsRefusedBy (or_refused (link_refused units entry) t) j
refused_link p None t units entry j h one none = subst (IsRefusedBy _) (sym (none refl)) tt
refused_link p (Some x) (Ok u) units entry j h one none = absurd (cc)
refused_link p (Some x) (Err y) units entry j h one none =
    let s : y ≡ x = cc in refused_as (link_refused units entry x) j _ (ap (λ e. Err (link_refused units entry e)) s) (one x refl)

pub linked_refuses : {P : Type 0} (p : P) (o : Option LinkError) (units : List syntax.Unit) (entry : List ℕ) (j : JudgeError)
    → IsTold {T = P} o (all_pass (link_tests units entry) >> Ok p) → ((x : LinkError) → o ≡ Some x → Refuses (link_refused units entry x) j)
    → (o ≡ None → j ≡ Memory) → IsRefusedBy (linked units entry) j
unfolding linked
linked_refuses p o units entry j h one none = refused_link p o (all_pass (link_tests units entry)) units entry j h one none

-- ---- what comes first decides

tells_on : {A B : Type 0} (o : Option Refused) (due : Result A Refused) (next : A → Result B Refused) → Tells o due → Tells o (due >>= next)
tells_on None due next h = absurd h
tells_on (Some x) due next h = rw h refl

refused_on : {A B : Type 0} (j : JudgeError) (due : Result A Refused) (next : A → Result B Refused) → IsRefusedBy due j
    → IsRefusedBy (due >>= next) j
refused_on (Refusing r) due next h = tells_on (told r) due next h
refused_on (No f) due next h = absurd h
refused_on Memory due next h = tt

module _ (layout image : List ℕ) (files : List (List ℕ)) where
  tells_parts : (o : Option Refused) → Tells o (inputs_of layout image files)
      → (x : Refused) × (o ≡ Some x) × (inputs_of layout image files ≡ Err x)
  tells_parts None h = absurd h
  tells_parts (Some x) h = (x, refl, h)

  judged : (j : JudgeError) → IsRefusedBy (inputs_of layout image files) j → IsJudgedBy layout image files j
  judged (Refusing r) h = tells_parts (told r) h
  judged (No f) h = absurd h
  judged Memory h = tt

  layout_refuses : (j : JudgeError) → IsRefusedBy (layout_in layout) j → IsRefusedBy (inputs_of layout image files) j
  unfolding inputs_of
  layout_refuses j h = refused_on j (layout_in layout) _ h

  pub by_layout : (j : JudgeError) → IsRefusedBy (layout_in layout) j → IsJudgedBy layout image files j
  by_layout j h = judged j (layout_refuses j h)

  image_refuses : (l : Layout) (j : JudgeError) → layout_in layout ≡ Ok l → IsRefusedBy (image_in image) j
      → IsRefusedBy (inputs_of layout image files) j
  unfolding inputs_of
  image_refuses l j e h = rw e (refused_on j (image_in image) _ h)

  pub by_image : (l : Layout) (j : JudgeError) → layout_in layout ≡ Ok l → IsRefusedBy (image_in image) j → IsJudgedBy layout image files j
  by_image l j e h = judged j (image_refuses l j e h)

  units_refuse : (l : Layout) (v : Image) (j : JudgeError) → layout_in layout ≡ Ok l → image_in image ≡ Ok v
      → IsRefusedBy (units_in 0 files) j
      → IsRefusedBy (inputs_of layout image files) j
  unfolding inputs_of
  units_refuse l v j e d h = rw (e, d) (refused_on j (units_in 0 files) _ h)

  pub by_units : (l : Layout) (v : Image) (j : JudgeError) → layout_in layout ≡ Ok l → image_in image ≡ Ok v
      → IsRefusedBy (units_in 0 files) j
      → IsJudgedBy layout image files j
  by_units l v j e d h = judged j (units_refuse l v j e d h)

  all_read : (l : Layout) (v : Image) (us : List syntax.Unit) → layout_in layout ≡ Ok l → image_in image ≡ Ok v → units_in 0 files ≡ Ok us
      → inputs_of layout image files ≡ after_reading v l us
  unfolding inputs_of
  all_read l v us e d u = rw (e, d, u) refl

  judged_last : (due : Result Inputs Refused) (j : JudgeError) → inputs_of layout image files ≡ due → IsJudgedOf due j
      → IsJudgedBy layout image files j
  judged_last due (Refusing r) e h = tells_parts (told r) (subst (Tells (told r)) (sym e) h)
  judged_last due (No f) e h = (h.0, e ∙ h.1, h.2)
  judged_last due Memory e h = tt

  pub by_linking : (l : Layout) (v : Image) (us : List syntax.Unit) (j : JudgeError) → layout_in layout ≡ Ok l → image_in image ≡ Ok v
      → units_in 0 files ≡ Ok us → IsJudgedOf (after_reading v l us) j → IsJudgedBy layout image files j
  by_linking l v us j e d u h = judged_last (after_reading v l us) j (all_read l v us e d u) h

  pub account_is : (l : Layout) (v : Image) (us : List syntax.Unit) (a : Account) → layout_in layout ≡ Ok l → image_in image ≡ Ok v
      → units_in 0 files ≡ Ok us → IsAccountOf (after_reading v l us) a → IsAccount layout image files a
  account_is l v us a e d u h = (h.0, all_read l v us e d u ∙ h.1, h.2, h.3)

  pub all_yes : {A : Type 0} (seen : A → Account) (l : Layout) (v : Image) (us : List syntax.Unit) (r : Result A JudgeError)
      → layout_in layout ≡ Ok l → image_in image ≡ Ok v → units_in 0 files ≡ Ok us
      → IfOk r (λ a. IsAccountOf (after_reading v l us) (seen a)) → IfOk r (λ a. IsAccount layout image files (seen a))
  all_yes seen l v us (Ok a) e d u h = account_is l v us (seen a) e d u h
  all_yes seen l v us (Err j) e d u h = tt

  pub all_no : {A : Type 0} (l : Layout) (v : Image) (us : List syntax.Unit) (r : Result A JudgeError)
      → layout_in layout ≡ Ok l → image_in image ≡ Ok v → units_in 0 files ≡ Ok us
      → IfErr r (λ j. IsJudgedOf (after_reading v l us) j) → IfErr r (λ j. IsJudgedBy layout image files j)
  all_no l v us (Ok a) e d u h = tt
  all_no l v us (Err j) e d u h = by_linking l v us j e d u h

  pub all_faithful : {A : Type 0} (l : Layout) (v : Image) (us : List syntax.Unit) (r : Result A JudgeError)
      → layout_in layout ≡ Ok l → image_in image ≡ Ok v → units_in 0 files ≡ Ok us
      → IfOk r (λ a. IsFaithfulOf (after_reading v l us)) → IfOk r (λ a. IsFaithful layout image files)
  all_faithful l v us (Ok a) e d u h = (h.0, all_read l v us e d u ∙ h.1, h.2)
  all_faithful l v us (Err j) e d u h = tt

-- what holds of inputs that were read, where the units link
pub faithful_of : (v : Image) (l : Layout) (us : List syntax.Unit) (entry : List ℕ) (p : Program) → entry ≡ l.entry
    → linked us entry ≡ Ok tt
    → p ≡ record { units = us; entry = entry } → Faithful (record { image = v; layout = l; program = p })
    → IsFaithfulOf (after_reading v l us)
faithful_of v l us entry p same link is faith =
    let q : p ≡ record { units = us; entry = l.entry } = is ∙ ap (λ e. record { units = us; entry = e }) same in
    let ok : linked us l.entry ≡ Ok tt = ap (linked us) (sym same) ∙ link in (
      record { image = v; layout = l; program = record { units = us; entry = l.entry } },
      rw ok refl,
      subst (λ (x : Program). Faithful (record { image = v; layout = l; program = x })) q faith,
    )
