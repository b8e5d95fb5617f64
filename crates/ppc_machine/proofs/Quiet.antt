-- A step that calls no external function reads no bytes.
use Rattle.std.proofs.Common.{◌≡◌, ℕ, Bool, true, false, List, [], Option, Some, None, Result, Ok, Err, refl}
use Rattle.image_model.specs.Image.{Segment}
use Rattle.effect_model.specs.declared.Action.{Action}
use Rattle.effect_model.specs.declared.Action.TheVariants as does
use Rattle.effect_model.specs.declared.Place.{Place}
use Rattle.effect_model.specs.Files.{File, flat_stops}
use Rattle.ppc_decode.specs.declared.machine.Machine.{Machine}
use Rattle.ppc_decode.specs.declared.machine.Machine.TheVariants.{B, Bl, Bc, Blr, Bctr, Bctrl}
use Rattle.ppc_decode.specs.Decoding.{decoded}
use Rattle.flat_mem.specs.declared.memory.FaultKind.{FaultKind}
use Rattle.ppc_machine.specs.Actions.{action_of}
use Rattle.ppc_machine.specs.Answers.{read_by}
use Rattle.ppc_machine.specs.State.{FlatState}
use Rattle.ppc_machine.specs.Steps.{got, kept, jumped, performed, decoded_as, fetched_as}

got_quiet : (t : FlatState) (p : Place) (o : Option ℕ) → read_by (got t p o) ≡ []
got_quiet t p None = refl
got_quiet t p (Some x) = refl

kept_quiet : (t : FlatState) (f : File ℕ) (r : Result (List Segment) FaultKind) → read_by (kept t f r) ≡ []
kept_quiet t f (Err e) = refl
kept_quiet t f (Ok m) = refl

jumped_quiet : (t : FlatState) (i : Machine) → read_by (jumped t i) ≡ []
jumped_quiet t (B d) = refl
jumped_quiet t (Bl d) = refl
jumped_quiet t (Bc bo bi d) = refl
jumped_quiet t Blr = refl
jumped_quiet t Bctr = refl
jumped_quiet t Bctrl = refl
jumped_quiet t _ = refl

performed_quiet : (t : FlatState) (i : Machine) (a : Action) → read_by (performed t i a) ≡ []
performed_quiet t i (does.Work es) = refl
performed_quiet t i (does.Divide e) = at (flat_stops e t.file) refl
  where
    at : (s : Bool) → flat_stops e t.file ≡ s → read_by (performed t i (does.Divide e)) ≡ []
    at true h = rw h refl
    at false h = rw h refl
performed_quiet t i (does.Load f x y p) = got_quiet t p _
performed_quiet t i (does.Store f p x y to) = kept_quiet t _ _
performed_quiet t i (does.MoveFromCr p) = refl
performed_quiet t i does.Jump = jumped_quiet t i

decoded_quiet : (t : FlatState) (o : Option Machine) → read_by (decoded_as t o) ≡ []
decoded_quiet t None = refl
decoded_quiet t (Some i) = performed_quiet t i (action_of i)

pub fetched_quiet : (t : FlatState) (r : Result ℕ FaultKind) → read_by (fetched_as t r) ≡ []
fetched_quiet t (Err e) = refl
fetched_quiet t (Ok w) = decoded_quiet t (decoded w)
