-- No step changes the root, or how many cells the variables have, and each makes one block at most. A call hands over arguments
-- alone, and leaves each block where it is.
use Rattle.std.proofs.Common.{◌≡◌, ℕ, suc, ◌+◌, ◌<◌, ◌≤◌, Bool, true, false, List, [], ◌∷◌, length, map, take, Option, Some, None, refl, ap}
use Rattle.std.proofs.Common.{sym, ◌∙◌, subst, arith}
use Rattle.std.specs.Prelude.{◌==◌, ◌&&◌, not, nat_lt, nat_le, pos, slice_index_or, if◌then◌else◌}
use Rattle.std.specs.List.{list_all}
use Rattle.std.proofs.lemmas.Bool.{and_parts, leb-true}
use Rattle.effect_model.specs.declared.Action.{Action}
use Rattle.effect_model.specs.declared.Action.TheVariants as does
use Rattle.effect_model.specs.declared.Form.{Form}
use Rattle.effect_model.specs.declared.Place.{Place}
use Rattle.effect_model.specs.Files.{File, get, put}
use Rattle.effect_model.specs.declared.Place.TheVariants.{Gpr, Bit, Ctr}
use Rattle.asm_syntax.specs.declared.instr.Instr.{Instr}
use Rattle.asm_syntax.specs.declared.instr.Instr.TheVariants as instrs
use Rattle.asm_syntax.specs.declared.instr.Jump.{Jump}
use Rattle.asm_syntax.specs.declared.instr.Jump.TheVariants as jumps
use Rattle.asm_syntax.specs.declared.instr.Plain.{Plain}
use Rattle.asm_syntax.specs.declared.instr.Plain.TheVariants as plains
use Rattle.asm_syntax.specs.declared.unit.Buffer.{Buffer}
use Rattle.asm_syntax.specs.declared.unit.Reply.{Reply}
use Rattle.asm_syntax.specs.declared.unit.Sig.{Sig}
use Rattle.call_bytes.specs.Calls.{arguments, first_fill, rest_fills}
use Rattle.asm_mem.specs.declared.value.Val.{Val}
use Rattle.asm_mem.specs.declared.value.Val.TheVariants.{Undef, Int, Ptr, Code, Ext, Stop}
use Rattle.asm_mem.specs.declared.cell.Cell.{Cell}
use Rattle.asm_mem.specs.declared.cell.Cell.TheVariants.{Byte}
use Rattle.asm_mem.specs.Blocks.{Live, has, new_block, set_cells, top, total, update, value_at, write_block}
use Rattle.asm_mem.specs.Cells.{cells_of, empty_word}
use Rattle.asm_mem.specs.Values.{same_val}
use Rattle.asm_mem.specs.Order.{Below}
use Rattle.asm_mem.proofs.Counting.{set_cells_length, set_cells_number}
use Rattle.asm_values.specs.Accesses.{cells_by, load_by, may_store_by, stored_by}
use Rattle.asm_values.specs.Actions.{plain_action}
use Rattle.asm_values.specs.Files.{asm_divided, value_read}
use Rattle.asm_values.specs.Operands.{sum_args, symbol_value}
use Rattle.asm_step.specs.declared.answer.Why.TheVariants.{Access, Argument, Target, Table, Buffer as NoBuffer, Frame as NoFrame}
use Rattle.asm_step.specs.declared.answer.Asm.{Asm}
use Rattle.asm_step.specs.declared.answer.Asm.TheVariants as answers
use Rattle.asm_step.specs.Answers.{Answers}
use Rattle.asm_step.specs.Calls.{answered, buffer_at, buffer_fits, buffer_size, called, fill_at, filled, is_argument}
use Rattle.asm_step.specs.Frames.{is_frame, popped, pushed}
use Rattle.asm_step.specs.Jumps.{at_label, branched, counts, jump, jumped, linked, tabled}
use Rattle.asm_step.specs.LinkedCode.{Linked, instruction, is_target, key_at, sig_of}
use Rattle.asm_step.specs.State.{State, Next, Went, Called, Ended, Starved, Undefined, gone}
use Rattle.asm_step.specs.Steps.{act, asm_step, at_code, at_place, divided, finish, jumps_by, loaded, performed, stored}
use Rattle.asm_machine.specs.Cpus.{Hands, Stepped, goes_on}
use Rattle.asm_machine.specs.Stacks.{IsStack, Root, Frame}
use Rattle.asm_machine.proofs.Homes.{home_returned}

-- ---- changes of one block

total_update : (b : ℕ) (f : Live → Live) (live : List Live) → ((k : Live) → length (f k).cells ≡ length k.cells)
    → total (update b f live) ≡ total live
total_update b f [] h = refl
total_update b f (k ∷ ks) h = at (has b k) (total_update b f ks h)
  where
    at : (t : Bool) → total (update b f ks) ≡ total ks → total (if t then f k ∷ ks else k ∷ update b f ks) ≡ length k.cells + total ks
    at true r = ap (λ (n : ℕ). n + total ks) (h k)
    at false r = ap (λ (n : ℕ). length k.cells + n) r

below_update : (v b : ℕ) (f : Live → Live) (live : List Live) → ((k : Live) → (f k).number ≡ k.number) → Below v live
    → Below v (update b f live)
below_update v b f [] h w = w
below_update v b f (k ∷ ks) h w = at (has b k) (below_update v b f ks h w.1)
  where
    at : (t : Bool) → Below v (update b f ks) → Below v (if t then f k ∷ ks else k ∷ update b f ks)
    at true r = let e = h k in (omega arith, w.1)
    at false r = (w.0, r)

stack_update : (v base b : ℕ) (f : Live → Live) (live : List Live) → ((k : Live) → (f k).number ≡ k.number)
    → ((k : Live) → length (f k).cells ≡ length k.cells) → IsStack v base live → IsStack v base (update b f live)
stack_update v base b f live number size (Root k ks e below sum) = at (has b k)
  where
    at : (t : Bool) → IsStack v base (if t then f k ∷ ks else k ∷ update b f ks)
    at true = Root (f k) ks (number k ∙ e) below (ap (λ (n : ℕ). n + total ks) (size k) ∙ sum)
    at false =
        Root k (update b f ks) e (below_update v b f ks number below) (ap (λ (n : ℕ). length k.cells + n) (total_update b f ks size) ∙ sum)
stack_update v base b f live number size (Frame k ks h rest) = at (has b k) (stack_update v base b f ks number size rest)
  where
    at : (t : Bool) → IsStack v base (update b f ks) → IsStack v base (if t then f k ∷ ks else k ∷ update b f ks)
    at true r = let e = number k in Frame (f k) ks (omega arith) rest
    at false r = Frame k (update b f ks) h r

stack_set : (v base b o : ℕ) (cs : List Cell) (live : List Live) → IsStack v base live
    → IsStack v base (update b (λ k. set_cells k o cs) live)
stack_set v base b o cs live s =
    stack_update v base b (λ k. set_cells k o cs) live (λ k. set_cells_number k o cs) (λ k. set_cells_length k o cs) s

stack_stored : (v base : ℕ) (form : Form) (at x : Val) (live : List Live) → IsStack v base live → IsStack v base (stored_by live form at x)
stack_stored v base form (Ptr b o) x live s = stack_set v base b o (cells_by form x) live s
stack_stored v base form _ x live s = s

stack_fill : (v base : ℕ) (at size : Val) (xs : List ℕ) (live : List Live) → IsStack v base live → IsStack v base (fill_at live at size xs)
stack_fill v base (Ptr b o) (Int n) xs live s = stack_set v base b o (map Byte (take n xs)) live s
stack_fill v base _ _ xs live s = s

stack_filled : (v base : ℕ) (f : File Val) (sig : Sig) (bs : List Buffer) (fills : List (List ℕ)) (live : List Live) → IsStack v base live
    → IsStack v base (filled live f sig bs fills)
stack_filled v base f sig [] fills live s = s
stack_filled v base f sig (b ∷ bs) fills live s = at b.fills (stack_filled v base f sig bs)
  where
    at : (t : Bool) → ((fills : List (List ℕ)) (live : List Live) → IsStack v base live → IsStack v base (filled live f sig bs fills))
        → IsStack v base (if t then filled (fill_at live (buffer_at f sig b) (buffer_size f sig b) (first_fill fills)) f sig bs
        (rest_fills fills) else filled live f sig bs fills)
    at true r =
        r (rest_fills fills) (fill_at live (buffer_at f sig b) (buffer_size f sig b) (first_fill fills))
        (stack_fill v base (buffer_at f sig b) (buffer_size f sig b) (first_fill fills) live s)
    at false r = r fills live s

-- ---- blocks that are made and freed

stack_push : (v base : ℕ) (k : Live) (live : List Live) → v < k.number → IsStack v base live → IsStack v base (k ∷ live)
stack_push v base k live h s = Frame k live h s

stack_pop : (v base : ℕ) (k j : Live) (ks : List Live) → v ≤ j.number → IsStack v base (k ∷ j ∷ ks) → IsStack v base (j ∷ ks)
stack_pop v base k j ks h (Root i is e below sum) = absurd (omega arith)
stack_pop v base k j ks h (Frame i is f rest) = rest

-- ---- a step

-- the stack stays one, and the number of the next block does not fall and is one more at most
abbrev Keeps : ℕ → ℕ → State → State → Type 0
Keeps v base s t = (IsStack v base s.live → IsStack v base t.live) × (s.next ≤ t.next) × (t.next ≤ s.next + 1)

abbrev Kept : ℕ → ℕ → State → Next → Type 0
Kept v base s (Went t) = Keeps v base s t
Kept v base s (Called c t) = Keeps v base s t × (Hands v s (Called c t))
Kept v base s _ = Unit {0}

same : (v base : ℕ) (s : State) → Keeps v base s s
same v base s = (λ h. h, omega arith, omega arith)

by_test : (v base : ℕ) (s : State) (t : Bool) (a b : Next) → (t ≡ true → Kept v base s a) → Kept v base s b
    → Kept v base s (if t then a else b)
by_test v base s true a b h k = h refl
by_test v base s false a b h k = k

kept_jump : (v base : ℕ) (p : Linked) (x : Val) (s : State) → Kept v base s (jump p x s)
kept_jump v base p x s = by_test v base s (is_target p x) (Went (record s { place = x })) (Undefined Target) (λ e. same v base s) tt

kept_linked : (v base : ℕ) (p : Linked) (f i : ℕ) (x : Val) (s : State) → Kept v base s (jump p x (linked s f i))
kept_linked v base p f i x s =
    by_test v base s (is_target p x) (Went (record (linked s f i) { place = x })) (Undefined Target) (λ e. same v base s) tt

kept_counts : (v base : ℕ) (p : Linked) (f i : ℕ) (s : State) (label : ℕ) (x : Val) → Kept v base s (counts p f i s label x)
kept_counts v base p f i s label (Int n) = same v base s
kept_counts v base p f i s label _ = tt

kept_jumped : (v base : ℕ) (p : Linked) (f i : ℕ) (s : State) (key : ℕ) (j : Jump) → Kept v base s (jumped p f i s key j)
kept_jumped v base p f i s key (jumps.B label) = same v base s
kept_jumped v base p f i s key (jumps.Bs name) = kept_jump v base p (symbol_value p.kinds key (pos 0) 0) s
kept_jumped v base p f i s key (jumps.Bl name) = kept_linked v base p f i (symbol_value p.kinds key (pos 0) 0) s
kept_jumped v base p f i s key (jumps.Bdnz label) = kept_counts v base p f i s label s.file.ctr
kept_jumped v base p f i s key jumps.Blr = kept_jump v base p s.file.lr s
kept_jumped v base p f i s key jumps.Bctr = kept_jump v base p s.file.ctr s
kept_jumped v base p f i s key jumps.Bctrl = kept_linked v base p f i s.file.ctr s
kept_jumped v base p f i s key jumps.Trap = tt

kept_branched : (v base : ℕ) (p : Linked) (f i : ℕ) (s : State) (label : ℕ) (wanted : Bool) (x : Val)
    → Kept v base s (branched p f i s label wanted x)
kept_branched v base p f i s label wanted (Int n) = same v base s
kept_branched v base p f i s label wanted _ = tt

kept_tabled : (v base : ℕ) (p : Linked) (f : ℕ) (s : State) (labels : List ℕ) (x : Val) → Kept v base s (tabled p f s labels x)
kept_tabled v base p f s labels (Int j) =
    let goes : Next = Went (record s {
      file = put (put s.file (Gpr 12) Undef) Ctr Undef;
      place = at_label p f (slice_index_or labels j 0);
    }) in
    by_test v base s (nat_lt j (length labels)) goes (Undefined Table) (λ e. same v base s) tt
kept_tabled v base p f s labels _ = tt

kept_loaded : (v base f i : ℕ) (s : State) (to : Place) (o : Option Val) → Kept v base s (loaded f i s to o)
kept_loaded v base f i s to None = tt
kept_loaded v base f i s to (Some x) = same v base s

kept_stored : (v base f i : ℕ) (s : State) (form : Form) (at x : Val) → Kept v base s (stored f i s form at x)
kept_stored v base f i s form at x =
    by_test v base s (may_store_by s.live form at)
    (Went (record (gone s f i s.file) { live = stored_by s.live form at x })) (Undefined Access)
    (λ e. (λ h. stack_stored v base form at x s.live h, omega arith, omega arith)) tt

kept_divided : (v base f i : ℕ) (s : State) (o : Option (File Val)) → Kept v base s (divided f i s o)
kept_divided v base f i s None = tt
kept_divided v base f i s (Some file) = same v base s

kept_jumps : (v base : ℕ) (p : Linked) (f i : ℕ) (s : State) (key : ℕ) (x : Plain) → Kept v base s (jumps_by p f i s key x)
kept_jumps v base p f i s key (plains.Jump j) = kept_jumped v base p f i s key j
kept_jumps v base p f i s key _ = tt

kept_performed : (v base : ℕ) (p : Linked) (f i : ℕ) (s : State) (key : ℕ) (x : Plain) (a : Action)
    → Kept v base s (performed p f i s key x a)
kept_performed v base p f i s key x (does.Work es) = same v base s
kept_performed v base p f i s key x (does.Divide e) = kept_divided v base f i s (asm_divided p.kinds s.live e s.file)
kept_performed v base p f i s key x (does.Load form u w to) =
    kept_loaded v base f i s to (load_by s.live form (sum_args p.kinds (value_read s.file u) (value_read s.file w)))
kept_performed v base p f i s key x (does.Store form from u w to) =
    kept_stored v base f i s form (sum_args p.kinds (value_read s.file u) (value_read s.file w)) (get Undef s.file from)
kept_performed v base p f i s key x (does.MoveFromCr to) = tt
kept_performed v base p f i s key x does.Jump = kept_jumps v base p f i s key x

kept_pushed : (v base f i : ℕ) (s : State) (n : ℕ) → v < s.next → Keeps v base s (pushed f i s n)
kept_pushed v base f i s n h =
    let x = get Undef s.file (Gpr 1) in
    let e : (write_block (new_block s.next n true) 4 0 x).number ≡ s.next = set_cells_number (new_block s.next n true) 0 (cells_of 4 x) in
    (λ r. stack_push v base (write_block (new_block s.next n true) 4 0 x) s.live (omega arith) r, omega arith, omega arith)

kept_popped : (v base : ℕ) (p : Linked) (f i : ℕ) (s : State) (n : ℕ) (live : List Live) → v ≡ p.variables → live ≡ s.live
    → Kept v base s (popped p f i s n live)
kept_popped v base p f i s n [] e same = tt
kept_popped v base p f i s n (k ∷ []) e same = tt
kept_popped v base p f i s n (k ∷ j ∷ ks) e same =
    by_test v base s (is_frame p n k j)
    (Went (record s { file = put s.file (Gpr 1) (Ptr j.number 0); place = Code f (suc i); live = j ∷ ks })) (Undefined NoFrame) freed tt
  where
    freed : is_frame p n k j ≡ true
        → Keeps v base s (record s { file = put s.file (Gpr 1) (Ptr j.number 0); place = Code f (suc i); live = j ∷ ks })
    freed h =
        let first = and_parts (nat_le p.variables j.number) (length k.cells == n && same_val (value_at k 4 0) (Ptr j.number 0)) h in
        let high = leb-true p.variables j.number first.0 in
        let P : List Live → Type 0 = λ l. IsStack v base l in
        (λ r. stack_pop v base k j ks (omega arith) (subst P (sym same) r), omega arith, omega arith)

kept_act : (v base : ℕ) (p : Linked) (f i : ℕ) (s : State) (key : ℕ) (x : Instr) → v ≡ p.variables → v < s.next
    → Kept v base s (act p f i s key x)
kept_act v base p f i s key (instrs.Plain x) e h = kept_performed v base p f i s key x (plain_action x key)
kept_act v base p f i s key (instrs.AllocFrame n) e h = kept_pushed v base f i s n h
kept_act v base p f i s key (instrs.FreeFrame n) e h = kept_popped v base p f i s n s.live e refl
kept_act v base p f i s key (instrs.Imm r n) e h = same v base s
kept_act v base p f i s key (instrs.Bt bit label) e h = kept_branched v base p f i s label true (get Undef s.file (Bit bit))
kept_act v base p f i s key (instrs.Bf bit label) e h = kept_branched v base p f i s label false (get Undef s.file (Bit bit))
kept_act v base p f i s key (instrs.Btbl r labels) e h = kept_tabled v base p f s labels (get Undef s.file (Gpr r))
kept_act v base p f i s key (instrs.MfcrBit r bit) e h = same v base s
kept_act v base p f i s key (instrs.Label label) e h = same v base s
kept_act v base p f i s key instrs.Cfi e h = same v base s
kept_act v base p f i s key instrs.Annot e h = same v base s

kept_code : (v base : ℕ) (p : Linked) (f i : ℕ) (s : State) (o : Option Instr) → v ≡ p.variables → v < s.next
    → Kept v base s (at_code p f i s o)
kept_code v base p f i s None e h = tt
kept_code v base p f i s (Some x) e h = kept_act v base p f i s (key_at p f i) x e h

by_passed : (v base : ℕ) (s : State) (t : Bool) (a b : Next) → Kept v base s a → (t ≡ false → Kept v base s b)
    → Kept v base s (if t then a else b)
by_passed v base s true a b h k = h
by_passed v base s false a b h k = k refl

passed : (b : Bool) → not b ≡ false → b ≡ true
passed true h = refl
passed false h = absurd (cc)

kept_answered : (v base key : ℕ) (s : State) (sig : Sig) (o : Option Reply)
    → list_all (is_argument s.live) (arguments Undef s.file sig) ≡ true
    → Kept v base s (answered key s sig o)
kept_answered v base key s sig None h = tt
kept_answered v base key s sig (Some r) h =
    let after = filled s.live s.file sig sig.buffers r.fills in (
      (
        λ h. stack_set v base (top after) 4 empty_word after (stack_filled v base s.file sig sig.buffers r.fills s.live h),
        omega arith,
        omega arith,
      ),
      (h, λ b. home_returned v b s sig r),
    )

kept_called : (v base : ℕ) (p : Linked) (key : ℕ) (s : State) (o : Option Reply) (g : Option Sig) → Kept v base s (called p key s o g)
kept_called v base p key s o None = tt
kept_called v base p key s o (Some sig) =
    let third : Next = if not (list_all (buffer_fits s.live s.file sig) sig.buffers) then Undefined NoBuffer else answered key s sig o in
    let second : Next = if not (is_target p s.file.lr) then Undefined Target else third in
    let are = list_all (is_argument s.live) (arguments Undef s.file sig) in
    by_passed v base s (not are) (Undefined Argument) second tt (λ e.
    by_test v base s (not (is_target p s.file.lr)) (Undefined Target) third (λ f. tt)
    (by_test v base s (not (list_all (buffer_fits s.live s.file sig) sig.buffers)) (Undefined NoBuffer) (answered key s sig o) (λ f. tt)
    (kept_answered v base key s sig o (passed are e))))

kept_final : (v base : ℕ) (s : State) (x : Val) → Kept v base s (finish x)
kept_final v base s (Int n) = tt
kept_final v base s _ = tt

kept_place : (v base : ℕ) (p : Linked) (s : State) (o : Option Reply) (x : Val) → v ≡ p.variables → v < s.next
    → Kept v base s (at_place p s o x)
kept_place v base p s o (Code f i) e h = kept_code v base p f i s (instruction p f i) e h
kept_place v base p s o (Ext key n) e h = kept_called v base p key s o (sig_of p key)
kept_place v base p s o Stop e h = kept_final v base s (get Undef s.file (Gpr 3))
kept_place v base p s o _ e h = tt

kept_step : (v base : ℕ) (p : Linked) (s : State) (o : Option Reply) → v ≡ p.variables → v < s.next → Kept v base s (asm_step p s o)
unfolding asm_step
kept_step v base p s o e h = kept_place v base p s o s.place e h

-- ---- the answer

keeps_of : (v base : ℕ) (n : Next) (a : Asm) (s t : State) → Kept v base s n → Answers n a s t → Keeps v base s t
keeps_of v base (Went u) a s t k h = let P : State → Type 0 = λ x. Keeps v base s x in subst P (sym h.1) k
keeps_of v base (Called c u) a s t k h = let P : State → Type 0 = λ x. Keeps v base s x in subst P (sym h.1) k.0
keeps_of v base (Ended w) a s t k h = let P : State → Type 0 = λ x. Keeps v base s x in subst P (sym h.1) (same v base s)
keeps_of v base Starved a s t k h = let P : State → Type 0 = λ x. Keeps v base s x in subst P (sym h.1) (same v base s)
keeps_of v base (Undefined w) a s t k h = let P : State → Type 0 = λ x. Keeps v base s x in subst P (sym h.1) (same v base s)

keeps_after : (v base : ℕ) (n : Next) (frame : Bool) (a : Asm) (s t : State) → Kept v base s n → Stepped n frame a s t → Keeps v base s t
keeps_after v base n frame answers.Memory s t k h = let P : State → Type 0 = λ x. Keeps v base s x in subst P (sym h.1) (same v base s)
keeps_after v base n frame a s t k h = keeps_of v base n a s t k h

pub stack_step : (v base : ℕ) (p : Linked) (o : Option Reply) (frame : Bool) (a : Asm) (s t : State) → p.variables ≡ v → v < s.next
    → Stepped (asm_step p s o) frame a s t → IsStack v base s.live → (IsStack v base t.live) × (s.next ≤ t.next) × (t.next ≤ s.next + 1)
stack_step v base p o frame a s t e h step r =
    let k = keeps_after v base (asm_step p s o) frame a s t (kept_step v base p s o (sym e) h) step in
    (k.0 r, k.1, k.2)

hands_of : (v base : ℕ) (s : State) (n : Next) → Kept v base s n → Hands v s n
hands_of v base s (Went t) k = tt
hands_of v base s (Called c t) k = k.1
hands_of v base s (Ended w) k = tt
hands_of v base s Starved k = tt
hands_of v base s (Undefined w) k = tt

pub hands_step : (v : ℕ) (p : Linked) (o : Option Reply) (s : State) → p.variables ≡ v → v < s.next → Hands v s (asm_step p s o)
hands_step v p o s e h = hands_of v 0 s (asm_step p s o) (kept_step v 0 p s o (sym e) h)

-- an answer is no want of memory
pub stepped : (n : Next) (frame : Bool) (a : Asm) (s t : State) → Answers n a s t → Stepped n frame a s t
stepped n frame answers.Went s t h = h
stepped n frame (answers.Called e) s t h = h
stepped n frame (answers.Ended w) s t h = h
stepped n frame answers.Starved s t h = h
stepped n frame (answers.Undefined w) s t h = h
stepped (Went u) frame answers.Memory s t h = let e = h.0 in cc
stepped (Called c u) frame answers.Memory s t h = let e = h.0 in cc
stepped (Ended w) frame answers.Memory s t h = let e = h.0 in cc
stepped Starved frame answers.Memory s t h = let e = h.0 in cc
stepped (Undefined w) frame answers.Memory s t h = let e = h.0 in cc

unmoved_by : (n : Next) (a : Asm) (s t : State) → Answers n a s t → goes_on a ≡ false → t ≡ s
unmoved_by (Went u) a s t h g = let e = ap goes_on h.0 in absurd (cc)
unmoved_by (Called c u) a s t h g = let e = ap goes_on h.0 in absurd (cc)
unmoved_by (Ended w) a s t h g = h.1
unmoved_by Starved a s t h g = h.1
unmoved_by (Undefined w) a s t h g = h.1

-- where the machine does not go on, its state is as before
pub unmoved : (n : Next) (frame : Bool) (a : Asm) (s t : State) → Stepped n frame a s t → goes_on a ≡ false → t ≡ s
unmoved n frame answers.Memory s t h g = h.1
unmoved n frame a s t h g = unmoved_by n a s t h g
