-- An event of the image is the one that the assembly's call shows.
use Rattle.std.proofs.Common.{◌≡◌, ℕ, List, [], ◌∷◌, map, Some, refl, sym, ap, ap₂, ◌∙◌}
use Rattle.std.specs.Prelude.{unwrap_or}
use Rattle.link_model.specs.Candidates.{Inputs}
use Rattle.asm_mem.specs.declared.value.Val.{Val}
use Rattle.asm_mem.specs.declared.value.Val.TheVariants.{Undef, Int, Ptr, Code, Ext, Stop, Ha}
use Rattle.asm_mem.specs.Blocks.{Live}
use Rattle.ppc_machine.specs.State.{FlatEvent}
use Rattle.machine_model.specs.AsmRuns.{AsmEvent}
use Rattle.machine_model.specs.Worlds.{World, world_of, shown}
use Rattle.machine_model.specs.Relation.{Both}
use Rattle.machine_model.specs.Faithful.{Shows}
use Rattle.machine_model.specs.Shown.{shown_event, shown_word}
use Rattle.machine_runs.specs.Traces.{asm_seen, seen_of}

module _ (g : Inputs) (bs stack : List ℕ) where
  abbrev pub W : World
  W = world_of g bs stack

  -- the words of values do not depend on the stack's bytes
  words_are : (live : List Live) (vs : List Val) (xs : List ℕ) → Both (λ (v : Val) (x : ℕ). shown W live v ≡ Some x) vs xs →
      map (shown_word (world_of g bs []) live) vs ≡ xs
  words_are live [] [] h = refl
  words_are live (v ∷ vs) (x ∷ xs) h = ap₂ (λ y ys. y ∷ ys) (word live v x h.0) (words_are live vs xs h.1)
    where
      word : (live : List Live) (v : Val) (x : ℕ) → shown W live v ≡ Some x → shown_word (world_of g bs []) live v ≡ x
      word live v x e = ap (λ o. unwrap_or o 0) e
  words_are live [] (x ∷ xs) h = absurd h
  words_are live (v ∷ vs) [] h = absurd h

  made : ℕ → List ℕ → List (List ℕ) → FlatEvent
  made n ws rs = record { number = n; words = ws; reads = rs }

  event_is : (a : AsmEvent) (e : FlatEvent) → Shows W a e → shown_event (world_of g bs []) a ≡ e
  unfolding made
  event_is a e h =
      let n : a.call.key ≡ e.number = sym h.number in
      let ws = words_are a.before.live a.call.values e.words h.words in
      let rs : a.call.reads ≡ e.reads = sym h.reads in
      ap (λ k. made k (map (shown_word (world_of g bs []) a.before.live) a.call.values) a.call.reads) n
      ∙ ap (λ l. made e.number l a.call.reads) ws
      ∙ ap (λ l. made e.number e.words l) rs

  -- the events of the image are those that the calls show
  pub events_are : (cs : List AsmEvent) (es : List FlatEvent) → Both (Shows W) cs es → map (asm_seen g bs) cs ≡ map seen_of es
  events_are [] [] h = refl
  events_are (a ∷ cs) (e ∷ es) h = ap₂ (λ y ys. y ∷ ys) (ap seen_of (event_is a e h.0)) (events_are cs es h.1)
  events_are [] (e ∷ es) h = absurd h
  events_are (a ∷ cs) [] h = absurd h
