-- From the answer of a step of the assembly machine to what it adds, and from what it adds to the trace.
use Rattle.std.proofs.Common.{◌≡◌, ◌<◌, ◌≤◌, ◌+◌, ℕ, zero, suc, max, Bool, true, false, List, [], ◌∷◌, length, map, slice_index_or}
use Rattle.std.proofs.Common.{Option, Some, None, refl, ap, sym, ◌∙◌, subst, arith, if◌then◌else◌}
use Rattle.std.specs.Prelude.{cond, find, is_some, nat_le, nat_lt, option_map, slice_get, unwrap_or}
use Rattle.isa_model.specs.Word.{wrapped}
use Rattle.std.specs.List.{list_all}
use Rattle.std.proofs.lemmas.Bool.{and_parts, eqb-true, leb-true, leb-false}
use Rattle.limits.specs.declared.TheConstants.{LEAST_FRAME_BYTES}
use Rattle.layout_model.specs.Layouts.{Layout}
use Rattle.image_model.specs.Image.{Image}
use Rattle.asm_syntax.specs.declared.instr.Instr.{Instr}
use Rattle.asm_syntax.specs.declared.unit.Reply.{Reply}
use Rattle.code_model.specs.Addresses.{instr_address}
use Rattle.link_model.specs.declared.key.KeyKind.TheVariants as kinds
use Rattle.link_model.specs.Numbers.{variables}
use Rattle.link_model.specs.Program.{Program}
use Rattle.name_addresses.specs.Given.{given}
use Rattle.asm_mem.specs.declared.value.Val.{Val}
use Rattle.asm_mem.specs.declared.value.Val.TheVariants as vals
use Rattle.asm_mem.specs.Blocks.{Live, has}
use Rattle.asm_step.specs.declared.answer.Asm as asm
use Rattle.asm_step.specs.declared.answer.Asm.TheVariants as answers
use Rattle.asm_step.specs.declared.answer.AsmEvent.{AsmEvent as Signalled}
use Rattle.asm_step.specs.declared.answer.Why.{Why}
use Rattle.asm_step.specs.Answers.{Answers, event_of, reads_of}
use Rattle.asm_step.specs.Calls.{is_argument}
use Rattle.asm_step.specs.LinkedCode.{Linked}
use Rattle.asm_step.specs.State.{Call, Next, State, Went, Called, Ended, Starved, Undefined}
use Rattle.asm_step.specs.Steps.{asm_step}
use Rattle.asm_machine.specs.Cpus.{Hands}
use Rattle.asm_machine.specs.declared.machine.Home.{Home}
use Rattle.asm_machine.specs.declared.machine.Home.TheVariants as homes
use Rattle.asm_machine.specs.Executables.{linked}
use Rattle.asm_machine.specs.Stacks.{frame_cells, from_block, home}
use Rattle.ppc_machine.specs.Answers.{shown as event_shown, word_at}
use Rattle.ppc_machine.specs.declared.externals.Event.{Event}
use Rattle.machine_model.specs.AsmRuns as model
use Rattle.machine_model.specs.AsmRuns.{AsmEvent, asm_run}
use Rattle.machine_model.specs.Shown.{shown_word}
use Rattle.machine_model.specs.Worlds as worlds
use Rattle.machine_model.specs.Worlds.{World, base, code_of, world_of}
use Rattle.machine_runs.specs.declared.trace.Seen.{Seen}
use Rattle.machine_runs.specs.declared.trace.Outcome.{Outcome}
use Rattle.machine_runs.specs.declared.trace.Outcome.TheVariants as ends
use Rattle.machine_runs.specs.declared.trace.Trace.{Trace}
use Rattle.machine_runs.specs.Arguments.{argument_event, argument_word, home_address, kind_address, pointer_address}
use Rattle.machine_runs.specs.Steps.{AddsWithin, AsmAdds, AsmFits, CallAdds, asm_state_after, or_stack}
use Rattle.machine_runs.specs.Traces.{asm_seen, trace_of}
use Rattle.machine_runs.proofs.AsmRunning.{IsAfter, called, full, over, stack, went}
use Rattle.machine_runs.proofs.FlatAdvances.{seen}
use Rattle.machine_runs.proofs.FlatRunning.{made}

-- ---- words of arguments

at_start : (v : Image) (a : ℕ) (code : List Instr) → instr_address v a code 0 ≡ a
at_start v a [] = refl
at_start v a (x ∷ code) = refl

module _ (v : Image) (layout : Layout) (p : Program) (bs : List ℕ) where
  -- a block stands where the machine says that it does
  home_is : (b : ℕ) (live : List Live) → worlds.home (world_of (given v layout p) bs []) live b
      ≡ option_map (home_address layout p.units bs) (home (length (variables p.units)) b live)
  home_is b [] = refl
  home_is b (k ∷ ks) = at (has b k) refl (home_is b ks)
    where
      here : k.number ≡ b → base (world_of (given v layout p) bs []) (k ∷ ks)
          ≡ home_address layout p.units bs (if nat_lt b (length (variables p.units)) then homes.Variable b else homes.Frame
          (frame_cells (length (variables p.units)) (k ∷ ks)))
      here e = by (nat_lt b (length (variables p.units))) refl
        where
          by : (t : Bool) → nat_lt b (length (variables p.units)) ≡ t → base (world_of (given v layout p) bs []) (k ∷ ks)
              ≡ home_address layout p.units bs (if t then homes.Variable b else homes.Frame
              (frame_cells (length (variables p.units)) (k ∷ ks)))
          by true h = rw (e, h) refl
          by false h = rw (e, h) (omega arith)

      at : (t : Bool) → has b k ≡ t
          → worlds.home (world_of (given v layout p) bs []) ks b
          ≡ option_map (home_address layout p.units bs) (home (length (variables p.units)) b ks)
          → (if t then Some (base (world_of (given v layout p) bs []) (k ∷ ks)) else worlds.home (world_of (given v layout p) bs []) ks b)
          ≡ option_map (home_address layout p.units bs)
          (if is_some (cond t (Some k) (find (has b) ks))
          then Some (if nat_lt b (length (variables p.units)) then homes.Variable b
          else homes.Frame (frame_cells (length (variables p.units)) (if t then k ∷ ks else from_block b ks)))
          else None)
      at true e r = ap Some (here (eqb-true k.number b e))
      at false e r = r

  pointer_is : (live after : List Live) (b o : ℕ) → home (length (variables p.units)) b after ≡ home (length (variables p.units)) b live
      → unwrap_or (pointer_address layout p.units bs after b o) 0
      ≡ unwrap_or (option_map (λ a. wrapped (a + o)) (worlds.home (world_of (given v layout p) bs []) live b)) 0
  pointer_is live after b o h =
      ap (λ q. unwrap_or (option_map (λ x. wrapped (home_address layout p.units bs x + o)) q) 0) h
      ∙ (at (home (length (variables p.units)) b live)
      ∙ ap (λ q. unwrap_or (option_map (λ a. wrapped (a + o)) q) 0) (sym (home_is b live)))
    where
      at : (q : Option Home) → unwrap_or (option_map (λ x. wrapped (home_address layout p.units bs x + o)) q) 0
          ≡ unwrap_or (option_map (λ a. wrapped (a + o)) (option_map (home_address layout p.units bs) q)) 0
      at None = refl
      at (Some x) = refl

  -- an argument is shown by its word, also where the blocks stand after the call
  word_is : (live after : List Live) (x : Val)
      → ((b : ℕ) → home (length (variables p.units)) b after ≡ home (length (variables p.units)) b live) → is_argument live x ≡ true
      → argument_word layout p.units bs after x ≡ shown_word (world_of (given v layout p) bs []) live x
  word_is live after (vals.Int n) h a = refl
  word_is live after (vals.Ptr b o) h a = pointer_is live after b o (h b)
  word_is live after (vals.Code f i) h a =
      let zero_is : i ≡ 0 = eqb-true i 0 a in
      let code = code_of (linked p) f in
      sym (ap (λ j. instr_address v (kind_address p.units bs (kinds.Function f)) code j) zero_is
      ∙ at_start v (kind_address p.units bs (kinds.Function f)) code)
  word_is live after (vals.Ext key o) h a = refl
  word_is live after vals.Undef h a = absurd (cc)
  word_is live after vals.Stop h a = absurd (cc)
  word_is live after (vals.Ha k o n) h a = absurd (cc)

-- in eight places
place_is : (f g : Val → ℕ) (live : List Live) (xs : List Val) (i : ℕ) → f vals.Undef ≡ 0
    → ((x : Val) → is_argument live x ≡ true → f x ≡ g x) → list_all (is_argument live) xs ≡ true
    → f (slice_index_or xs i vals.Undef) ≡ word_at (map g xs) i
place_is f g live [] i none same all = none
place_is f g live (x ∷ xs) zero none same all = same x (and_parts (is_argument live x) (list_all (is_argument live) xs) all).0
place_is f g live (x ∷ xs) (suc i) none same all =
    place_is f g live xs i none same (and_parts (is_argument live x) (list_all (is_argument live) xs) all).1

abbrev event_with : ℕ → ℕ → (ℕ → ℕ) → Event
event_with number count w = record {
  number = number;
  count = count;
  words = w 0 ∷ w 1 ∷ w 2 ∷ w 3 ∷ w 4 ∷ w 5 ∷ w 6 ∷ w 7 ∷ [];
}

values_at : (c : Call) (i : ℕ) → i < 8 → slice_index_or (event_of c).vals i vals.Undef ≡ slice_index_or c.values i vals.Undef
values_at c zero h = refl
values_at c (suc zero) h = refl
values_at c (suc (suc zero)) h = refl
values_at c (suc (suc (suc zero))) h = refl
values_at c (suc (suc (suc (suc zero)))) h = refl
values_at c (suc (suc (suc (suc (suc zero))))) h = refl
values_at c (suc (suc (suc (suc (suc (suc zero)))))) h = refl
values_at c (suc (suc (suc (suc (suc (suc (suc zero))))))) h = refl
values_at c (suc (suc (suc (suc (suc (suc (suc (suc i)))))))) h = absurd (omega arith)

length-map : (g : Val → ℕ) (xs : List Val) → length (map g xs) ≡ length xs
length-map g [] = refl
length-map g (x ∷ xs) = ap suc (length-map g xs)

event_is : (f g : Val → ℕ) (live : List Live) (c : Call) → f vals.Undef ≡ 0 → ((x : Val) → is_argument live x ≡ true → f x ≡ g x)
    → list_all (is_argument live) c.values ≡ true → argument_event f (event_of c) ≡ event_shown c.key (map g c.values)
event_is f g live c none same all =
    let w : (i : ℕ) → f (slice_index_or c.values i vals.Undef)
    ≡ word_at (map g c.values) i = λ i. place_is f g live c.values i none same all in
    λ k. record {
      number = c.key;
      count = sym (length-map g c.values) k;
      words = w 0 k ∷ w 1 k ∷ w 2 k ∷ w 3 k ∷ w 4 k ∷ w 5 k ∷ w 6 k ∷ w 7 k ∷ [];
    }

-- ---- from the answer

pub state_by : (n : Next) (a : asm.Asm) (s t : State) → Answers n a s t → t ≡ asm_state_after n s
state_by (Went u) a s t h = h.1
state_by (Called c u) a s t h = h.1
state_by (Ended w) a s t h = h.1
state_by Starved a s t h = h.1
state_by (Undefined w) a s t h = h.1

module _ (show : AsmEvent → Seen) (room : Bool) (s t : State) (es : List Seen) where
  -- what adds no event ends so, or by the stack
  within : (n : Next) (end : Option Outcome) → AsmAdds show s n end es es → AddsWithin room show s n (or_stack room end) es es
  within n end h = at room
    where
      at : (b : Bool) → AddsWithin b show s n (or_stack b end) es es
      at true = h
      at false = (refl, refl)

  pub adds_went : (n : Next) → Answers n answers.Went s t → AddsWithin room show s n (or_stack room None) es es
  adds_went (Went u) h = within (Went u) None (refl, refl)
  adds_went (Called c u) h = let e = h.0 in absurd (cc)
  adds_went (Ended w) h = let e = h.0 in absurd (cc)
  adds_went Starved h = let e = h.0 in absurd (cc)
  adds_went (Undefined w) h = let e = h.0 in absurd (cc)

  pub adds_ended : (n : Next) (w : ℕ) → Answers n (answers.Ended w) s t
      → AddsWithin room show s n (or_stack room (Some (ends.Ended w))) es es
  adds_ended (Went u) w h = let e = h.0 in absurd (cc)
  adds_ended (Called c u) w h = let e = h.0 in absurd (cc)
  adds_ended (Ended x) w h =
      let e = h.0 in let same : w ≡ x = cc in within (Ended x) (Some (ends.Ended w)) (ap (λ y. Some (ends.Ended y)) same, refl)
  adds_ended Starved w h = let e = h.0 in absurd (cc)
  adds_ended (Undefined x) w h = let e = h.0 in absurd (cc)

  pub adds_starved : (n : Next) → Answers n answers.Starved s t → AddsWithin room show s n (or_stack room (Some ends.Starved)) es es
  adds_starved (Went u) h = let e = h.0 in absurd (cc)
  adds_starved (Called c u) h = let e = h.0 in absurd (cc)
  adds_starved (Ended w) h = let e = h.0 in absurd (cc)
  adds_starved Starved h = within Starved (Some ends.Starved) (refl, refl)
  adds_starved (Undefined w) h = let e = h.0 in absurd (cc)

  pub adds_undefined : (n : Next) (w : Why) → Answers n (answers.Undefined w) s t
      → AddsWithin room show s n (or_stack room (Some (ends.Undefined w))) es es
  adds_undefined (Went u) w h = let e = h.0 in absurd (cc)
  adds_undefined (Called c u) w h = let e = h.0 in absurd (cc)
  adds_undefined (Ended x) w h = let e = h.0 in absurd (cc)
  adds_undefined Starved w h = let e = h.0 in absurd (cc)
  adds_undefined (Undefined x) w h =
      let e = h.0 in let same : w ≡ x = cc in within (Undefined x) (Some (ends.Undefined w)) (ap (λ y. Some (ends.Undefined y)) same, refl)

-- the stack has no room
pub adds_stack : (show : AsmEvent → Seen) (room : Bool) (s : State) (n : Next) (es : List Seen) → room ≡ false
    → AddsWithin room show s n (Some ends.Stack) es es
adds_stack show true s n es h = absurd (cc)
adds_stack show false s n es h = (refl, refl)

module _ (v : Image) (layout : Layout) (p : Program) (bs : List ℕ) where
  abbrev show : AsmEvent → Seen
  show e = asm_seen (given v layout p) bs e

  -- the event that is kept is the call's
  kept_event : (c : Call) (s t : State) (x : Signalled) (read : List (List ℕ))
      → Hands (length (variables p.units)) s (Called c t) → x ≡ event_of c → read ≡ c.reads
      → seen (argument_event (λ y. argument_word layout p.units bs t.live y) x) read
      ≡ asm_seen (given v layout p) bs (record { call = c; before = s })
  kept_event c s t x read hands is reads =
      let words : Val → ℕ = λ y. argument_word layout p.units bs t.live y in
      let shows : Val → ℕ = λ y. shown_word (world_of (given v layout p) bs []) s.live y in
      let event : argument_event words x ≡ event_shown c.key (map shows c.values) =
      ap (argument_event words) is
      ∙ event_is words shows s.live c refl (λ y a. word_is v layout p bs s.live t.live y hands.1 a) hands.0 in
      λ k. record { event = event k; read = reads k }

  pub adds_called : (room : Bool) (n : Next) (s t : State) (x : Signalled) (read : List (List ℕ)) (end : Option Outcome) (es fs : List Seen)
      → room ≡ true → Answers n (answers.Called x) s t → read ≡ reads_of n → Hands (length (variables p.units)) s n
      → CallAdds (seen (argument_event (λ y. argument_word layout p.units bs t.live y) x) read) end es fs
      → AddsWithin room (asm_seen (given v layout p) bs) s n end es fs
  adds_called false n s t x read end es fs good h r hands k = absurd (cc)
  adds_called true (Went u) s t x read end es fs good h r hands k = let e = h.0 in absurd (cc)
  adds_called true (Called c u) s t x read end es fs good h r hands k =
      let e = h.0 in
      let same : x ≡ event_of c = cc in
      let P : State → Type 0 = λ y. Hands (length (variables p.units)) s (Called c y) in
      let Q : Seen → Type 0 = λ y. CallAdds y end es fs in
      subst Q (kept_event c s t x read (subst P (sym h.1) hands) same r) k
  adds_called true (Ended w) s t x read end es fs good h r hands k = let e = h.0 in absurd (cc)
  adds_called true Starved s t x read end es fs good h r hands k = let e = h.0 in absurd (cc)
  adds_called true (Undefined w) s t x read end es fs good h r hands k = let e = h.0 in absurd (cc)

-- ---- to the run

module _ (p : Linked) (show : AsmEvent → Seen) (size : ℕ) (first : State) (replies : List Reply) (i : ℕ) (s : State) (deepest : ℕ)
    (es : List Seen) (a : IsAfter p show size first replies i s deepest es) where
  -- one step on, where the trace does not end
  goes_by : (n : Next) → asm_step p s (slice_get replies (length es)) ≡ n → (u : State) (d : ℕ) (fs : List Seen) → u ≡ asm_state_after n s
      → d ≡ max deepest (frame_cells p.variables u.live) → d + LEAST_FRAME_BYTES ≤ size → AsmAdds show s n None es fs
      → IsAfter p show size first replies (suc i) u d fs
  goes_by (Went w) e u d fs is deep room adds =
      let P : State → Type 0 = λ x. IsAfter p show size first replies (suc i) x d fs in
      let Q : List Seen → Type 0 = λ x. IsAfter p show size first replies (suc i) w d x in
      let deep_w : d ≡ max deepest (frame_cells p.variables w.live) = deep
      ∙ ap (λ (x : State). max deepest (frame_cells p.variables x.live)) is in
      subst P (sym is) (subst Q (sym adds.1) (went p show size first replies i s deepest es a w d e deep_w room))
  goes_by (Called c w) e u d fs is deep room adds =
      let P : State → Type 0 = λ x. IsAfter p show size first replies (suc i) x d fs in
      let Q : List Seen → Type 0 = λ x. IsAfter p show size first replies (suc i) w d x in
      let deep_w : d ≡ max deepest (frame_cells p.variables w.live) = deep
      ∙ ap (λ (x : State). max deepest (frame_cells p.variables x.live)) is in
      subst P (sym is) (subst Q (sym adds.0) (called p show size first replies i s deepest es a c w d e deep_w room adds.1))
  goes_by (Ended w) e u d fs is deep room adds = let x = adds.0 in absurd (cc)
  goes_by Starved e u d fs is deep room adds = let x = adds.0 in absurd (cc)
  goes_by (Undefined w) e u d fs is deep room adds = let x = adds.0 in absurd (cc)

  pub stays : (n : Next) → asm_step p s (slice_get replies (length es)) ≡ n → (u : State) (d : ℕ) (fs : List Seen) → u ≡ asm_state_after n s
      → d ≡ max deepest (frame_cells p.variables u.live) → AsmFits show size d s n None es fs
      → IsAfter p show size first replies (suc i) u d fs
  stays n e u d fs is deep adds = at (nat_le (d + LEAST_FRAME_BYTES) size) refl adds
    where
      at : (b : Bool) → nat_le (d + LEAST_FRAME_BYTES) size ≡ b → AddsWithin b show s n None es fs
          → IsAfter p show size first replies (suc i) u d fs
      at true h k = goes_by n e u d fs is deep (leb-true (d + LEAST_FRAME_BYTES) size h) k
      at false h k = let x = k.0 in absurd (cc)

  call_ends : (end : Outcome) (c : Call) (w : State) (d : ℕ) → asm_step p s (slice_get replies (length es)) ≡ Called c w
      → d ≡ max deepest (frame_cells p.variables w.live) → d + LEAST_FRAME_BYTES ≤ size → (fs : List Seen) (steps : ℕ) → suc i ≤ steps
      → CallAdds (show (record { call = c; before = s })) (Some end) es fs
      → made fs end ≡ trace_of show size (λ m. asm_run p m first replies) steps
  call_ends ends.Full c w d e deep room fs steps lt adds =
      ap (λ y. made y ends.Full) adds.0 ∙ full p show size first replies i s deepest es a c w d e deep room steps lt adds.1
  call_ends ends.Going c w d e deep room fs steps lt adds = absurd adds
  call_ends (ends.Ended x) c w d e deep room fs steps lt adds = absurd adds
  call_ends ends.Starved c w d e deep room fs steps lt adds = absurd adds
  call_ends (ends.Undefined x) c w d e deep room fs steps lt adds = absurd adds
  call_ends ends.Stack c w d e deep room fs steps lt adds = absurd adds
  call_ends (ends.Faulted k) c w d e deep room fs steps lt adds = absurd adds

  same_end : (x y : Outcome) (fs : List Seen) (z : Trace) → Some x ≡ Some y → fs ≡ es → made es y ≡ z → made fs x ≡ z
  same_end x y fs z h k r = let e : x ≡ y = cc in ap (λ o. made fs o) e ∙ (ap (λ q. made q y) k ∙ r)

  ends_by : (n : Next) → asm_step p s (slice_get replies (length es)) ≡ n → (end : Outcome) (d : ℕ) (fs : List Seen) (steps : ℕ)
      → suc i ≤ steps
      → d ≡ max deepest (frame_cells p.variables (asm_state_after n s).live) → d + LEAST_FRAME_BYTES ≤ size
      → AsmAdds show s n (Some end) es fs
      → made fs end ≡ trace_of show size (λ m. asm_run p m first replies) steps
  ends_by (Went w) e end d fs steps lt deep room adds = let x = adds.0 in absurd (cc)
  ends_by (Called c w) e end d fs steps lt deep room adds = call_ends end c w d e deep room fs steps lt adds
  ends_by (Ended w) e end d fs steps lt deep room adds =
      same_end end (ends.Ended w) fs _ adds.0 adds.1
      (over p show size first replies i s deepest es a (model.Ended w) (Ended w) e (λ m. refl) steps lt)
  ends_by Starved e end d fs steps lt deep room adds =
      same_end end ends.Starved fs _ adds.0 adds.1 (over p show size first replies i s deepest es a model.Starved Starved e (λ m. refl)
      steps lt)
  ends_by (Undefined w) e end d fs steps lt deep room adds =
      same_end end (ends.Undefined w) fs _ adds.0 adds.1
      (over p show size first replies i s deepest es a (model.Undefined w) (Undefined w) e (λ m. refl) steps lt)

  -- where it ends
  pub ends_so : (n : Next) → asm_step p s (slice_get replies (length es)) ≡ n
      → (end : Outcome) (u : State) (d : ℕ) (fs : List Seen) (steps : ℕ)
      → suc i ≤ steps → u ≡ asm_state_after n s → d ≡ max deepest (frame_cells p.variables u.live)
      → AsmFits show size d s n (Some end) es fs
      → made fs end ≡ trace_of show size (λ m. asm_run p m first replies) steps
  ends_so n e end u d fs steps lt is deep adds = at (nat_le (d + LEAST_FRAME_BYTES) size) refl adds
    where
      deep_n : d ≡ max deepest (frame_cells p.variables (asm_state_after n s).live)
      deep_n = deep ∙ ap (λ (x : State). max deepest (frame_cells p.variables x.live)) is

      at : (b : Bool) → nat_le (d + LEAST_FRAME_BYTES) size ≡ b → AddsWithin b show s n (Some end) es fs
          → made fs end ≡ trace_of show size (λ m. asm_run p m first replies) steps
      at true h k = ends_by n e end d fs steps lt deep_n (leb-true (d + LEAST_FRAME_BYTES) size h) k
      at false h k =
          same_end end ends.Stack fs _ k.0 k.1
          (stack p show size first replies i s deepest es a n d steps e deep_n (leb-false (d + LEAST_FRAME_BYTES) size h) lt)
