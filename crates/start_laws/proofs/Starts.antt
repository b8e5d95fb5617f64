-- The first states are related, and so runs from them are.
use Rattle.std.proofs.Common.{◌≡◌, ℕ, zero, suc, ◌+◌, ◌-◌, ◌<◌, ◌≤◌, Bool, true, false, ◌&&◌, nat_lt, nat_le, List, [], ◌∷◌, ◌++◌, length}
use Rattle.std.proofs.Common.{map, replicate, Option, Some, None, refl, sym, ap, ap₂, ◌∙◌, subst, arith, if◌then◌else◌, length-append}
use Rattle.std.specs.Prelude.{◌==◌, pos, flat_map, slice_get, slice_index_or, unwrap_or, is_some}
use Rattle.std.specs.List.{enumerate_from}
use Rattle.std.specs.Option.{option_map_or}
use Rattle.std.proofs.lemmas.List.{length-replicate}
use Rattle.std.proofs.lemmas.Bool.{and_parts, leb-true, ltb-true}
use Rattle.isa_model.specs.Word.{wrapped}
use Rattle.ordered_tests.specs.Lists.{EachOf}
use Rattle.word_ops.specs.Ranges.{holds}
use Rattle.image_model.specs.Image.{Image, Segment}
use Rattle.image_model.specs.Loaded.{HasRange, byte_at, is_writable}
use Rattle.asm_syntax.specs.Sizes.{variable_size}
use Rattle.asm_syntax.specs.declared.instr.Function.{Function}
use Rattle.asm_syntax.specs.declared.unit.Reply.{Reply}
use Rattle.asm_syntax.specs.declared.unit.Variable.{Variable}
use Rattle.code_model.specs.Addresses.{is_writable_at}
use Rattle.code_model.specs.Fields.{address_plus}
use Rattle.code_model.specs.Variables.{init_bytes, data_range}
use Rattle.effect_model.specs.declared.Place.TheVariants.{Gpr}
use Rattle.flat_mem.specs.Memory.{byte_of, set_bytes}
use Rattle.flat_mem.specs.Built.{built, filled, kept}
use Rattle.asm_mem.specs.declared.value.Val.TheVariants.{Ptr, Code}
use Rattle.asm_mem.specs.declared.cell.Cell.{Cell}
use Rattle.asm_mem.specs.declared.cell.Cell.TheVariants.{Nothing}
use Rattle.asm_mem.specs.Blocks.{Live, cell, new_block}
use Rattle.asm_values.specs.Operands.{symbol_value, kind_at, address_of}
use Rattle.asm_step.specs.LinkedCode.{is_target}
use Rattle.link_model.specs.declared.key.KeyKind.{KeyKind}
use Rattle.link_model.specs.declared.key.KeyKind.TheVariants as kinds
use Rattle.link_model.specs.Binding.{addresses, key_address, symbol_address}
use Rattle.link_model.specs.Candidates.{Inputs}
use Rattle.link_model.specs.Numbers.{item_kind, number_before, is_function, entry_key, variables}
use Rattle.link_model.specs.Program.{OfFunction, OfVariable}
use Rattle.link_laws.specs.Facts.{VariableFacts}
use Rattle.asm_machine.specs.Executables.{key_kinds}
use Rattle.asm_machine.specs.Starts as asm
use Rattle.asm_machine.specs.Starts.{root}
use Rattle.asm_machine.specs.Variables.{variable_block, variable_blocks, variable_keys, item_block, named_value}
use Rattle.ppc_machine.specs.declared.cpu.Junk.{Junk}
use Rattle.ppc_machine.specs.Starts.{root_of, first_memory, first_file as flat_first_file}
use Rattle.machine_model.specs.FlatRuns.{first_state}
use Rattle.machine_model.specs.Worlds.{World, world_of, variables_in}
use Rattle.machine_model.specs.Fits.{Fits, InStack, InVariable, Data, Stacked, OfVariable as OfData}
use Rattle.machine_model.specs.Relation.{Means, Both, CellMeans, CellsAgree, LiveAt, Laid, Same, IsFull, FilesAgree, PlacesAgree, Related}
use Rattle.value_laws.proofs.Both.{both_get}
use Rattle.value_laws.proofs.ValueLaws.{symbol_law}
use Rattle.memory_laws.specs.Laws.{Blank}
use Rattle.memory_laws.proofs.FrameLaws.{blank_at}
use Rattle.run_laws.proofs.Runs.{simulates}
use Rattle.world_laws.proofs.Elements.{get_some, get_or_is, get_below}
use Rattle.world_laws.proofs.Loads.{flagged, mapped_off, write_off, byte_off}
use Rattle.world_laws.proofs.Numbers.{VariableIs, variable_once, kinds_long, kind_is}
use Rattle.world_laws.proofs.WorldFacts.{holds_of, worlds_fit, KnownVariable, known_variable, in_variable}
use Rattle.start_laws.specs.Laws.{IsKnown, FirstStatesRelate, KnownIsFaithful}
use Rattle.start_laws.proofs.Lists.{down}
use Rattle.start_laws.proofs.Blocks.{blocks_down, block_is}
use Rattle.start_laws.proofs.FirstLaid.{IsBlock, IsLive, IsRoot, IsVariable, look, first_laid, root_home, data_live}
use Rattle.start_laws.proofs.FirstCells.{cells_long, both_long, data_law, set_same, set_other}
use Rattle.start_laws.proofs.FirstFiles.{first_files}

sized_kept : (s : Segment) → length s.held ≤ s.memsz → IsFull (kept s)
sized_kept s l = at (is_writable s.flags) refl
  where
    at : (t : Bool) → is_writable s.flags ≡ t → IsFull (if t then filled s else s)
    at true e f = length-append s.held _ ∙ ap (λ n. length s.held + n) (length-replicate (s.memsz - length s.held) 0) ∙ (omega arith)
    at false e f = cc

all_full : (ss : List Segment) → EachOf HasRange ss → EachOf IsFull (map kept ss)
all_full [] h = tt
all_full (s ∷ ss) h = (sized_kept s h.0.held, all_full ss h.1)

module _ (g : Inputs) (bs : List ℕ) (known : IsKnown g bs) (stack : List ℕ)
    (long : length stack + g.layout.stack.lo ≡ g.layout.stack.hi) where
  abbrev W : World
  W = world_of g bs stack

  fits : Fits W
  fits = worlds_fit g bs stack known.layout known.linked known.facts long

  abbrev block : ℕ → Live
  block v = slice_index_or (map (variable_block g.program.units) (enumerate_from 0 (variable_keys g.program.units))) v (new_block 0 0 false)

  abbrev one : (v : ℕ) → v < W.program.variables → KnownVariable g bs stack known.layout known.linked known.facts long v
  one v h = known_variable g bs stack known.layout known.linked known.facts long v h

  abbrev made : (v : ℕ) → v < W.program.variables → Live
  made v h = item_block g.program.units v (one v h).of.unit (OfVariable (one v h).variable)

  block_made : (v : ℕ) (h : v < W.program.variables) → block v ≡ made v h
  block_made v h = block_is g.program.units v (one v h).variable (one v h).of h

  var_facts : (v : ℕ) (h : v < W.program.variables)
      → VariableFacts g bs (one v h).of.unit (key_address bs (one v h).of.key) (one v h).variable
  var_facts v h = known.facts.variables (one v h).of.key (one v h).of.unit (one v h).variable (one v h).of.is

  off : (v o : ℕ) (h : v < W.program.variables) → o < W.variable_size v → holds (W.variable_at v + o) g.layout.stack ≡ false
  off v o h l =
      let k = one v h in
      let at = k.at in let size = k.size in
      (var_facts v h).off_stack (W.variable_at v + o) (holds_of (W.variable_at v + o) (key_address bs k.of.key)
      (key_address bs k.of.key + variable_size k.variable.init) (omega arith) (omega arith))

  made_block : (v : ℕ) (h : v < W.program.variables) → IsBlock W v (made v h)
  made_block v h =
      let k = one v h in
      let f = var_facts v h in
      let at = k.at in let size = k.size in
      let some = f.some in let below = f.below in
      record {
        number = refl;
        size = cells_long (named_value g.program.units k.of.unit) 0 k.variable.init ∙ sym k.size;
        some = omega arith;
        below = below_at (W.variable_at v) (W.variable_size v) (key_address bs k.of.key) (variable_size k.variable.init) at size below;
        off_stack = λ a i s. (
            let q = off v (a - W.variable_at v) h (let lo = i.from in let hi = i.below in omega arith) in
            let e : W.variable_at v + (a - W.variable_at v) ≡ a = (let lo = i.from in omega arith) in
            let r : holds a g.layout.stack ≡ false = subst (λ z. holds z g.layout.stack ≡ false) e q in
            let t = holds_of a g.layout.stack.lo g.layout.stack.hi s.0 s.1 in
            cc
            );
        mapped = λ o l. (
            let b = f.loaded o (omega arith) in
            let e : byte_at g.image (W.variable_at v + o) ≡ Some b.0 = subst (λ z. byte_at g.image (z + o) ≡ Some b.0) (sym at) b.1 in
            mapped_off g.image g.layout.stack stack long (W.variable_at v + o) (off v o h l) (flagged g.image (W.variable_at v + o) b.0 e)
            );
        open_at = λ wr o l. (
            let b = f.writable wr o (omega arith) in
            write_off g.image g.layout.stack stack long (W.variable_at v + o) (off v o h l)
            (subst (λ z. is_writable_at g.image (z + o) ≡ true) (sym at) b)
            );
      }
    where
      below_at : (a n b m : ℕ) → a ≡ b → n ≡ m → b + m ≤ 0xfffffff0 → a + n ≤ 0xfffffff0
      below_at a n b m e f h = omega arith

  blocks : (v : ℕ) → v < W.program.variables → IsBlock W v (block v)
  blocks v h = subst (IsBlock W v) (sym (block_made v h)) (made_block v h)

  differ : (v u a : ℕ) → InVariable W v a → InVariable W u a → v ≡ u
  differ v u a i j =
      let k = one v i.is in let l = one u j.is in
      let same = known.facts.variables_apart k.of.key l.of.key a
      (in_variable g bs stack known.layout known.linked known.facts long v a i)
      (in_variable g bs stack known.layout known.linked known.facts long u a j) in
      variable_once g.program.units v u l.of.key (k.of.number ∙ ap Some same) l.of.number

  abbrev live : List Live
  live = root W.program.variables ∷ down block W.program.variables

  laid : Laid W live (suc W.program.variables)
  laid = first_laid W fits block blocks differ

  -- ---- memory

  top_range : W.layout.stack.hi ≤ 0xfffffff0
  top_range = known.layout.parts.stack.range.most

  least : W.layout.stack.lo + 16 ≤ W.layout.stack.hi
  least = known.layout.parts.stack.least_size

  abbrev zeros : List ℕ
  zeros = 0 ∷ 0 ∷ 0 ∷ 0 ∷ []

  abbrev mem : List Segment
  mem = first_memory g.layout W.memory

  same_start : Same W W.memory
  same_start = record { flags = λ a. refl; bytes = λ a h. refl; full = ((λ f. refl), all_full g.image.segments known.loadable.ranges) }

  same : Same W mem
  same =
      set_same W (suc W.program.variables) zeros W.memory (root_of g.layout) (let t = top_range in let l = least in omega arith)
      (λ i h. Stacked (let l = least in omega arith, let l = least in omega arith)) same_start

  byte_stays : (a : ℕ) → (InStack W a → ⊥) → byte_of mem a ≡ byte_of W.memory a
  byte_stays a h =
      set_other zeros W.memory (root_of g.layout) a (let t = top_range in let l = least in omega arith)
      (λ i k e. h (subst (InStack W) e (let l = least in omega arith, let l = least in omega arith)))

  blank_root : (o : ℕ) → cell (root W.program.variables) o ≡ Nothing
  blank_root o =
      blank_at (replicate 16 Nothing) (
        refl,
        (refl, (refl, (refl, (refl, (refl, (refl, (refl, (refl, (refl, (refl, (refl, (refl, (refl, (refl, (refl, tt))))))))))))))),
      ) o

  made_cells : (v o : ℕ) (h : v < W.program.variables) → o < length (made v h).cells
      → CellMeans W live (suc W.program.variables) (cell (made v h) o) (byte_of mem (W.variable_at v + o))
  made_cells v o h l =
      let k = one v h in
      let f = var_facts v h in
      let b = made_block v h in
      let bytes = flat_map (init_bytes (symbol_address g bs k.of.unit)) k.variable.init in
      let both = data_law g bs stack fits live (suc W.program.variables) laid k.of.unit 0 k.variable.init
      (λ i x e r q. known.linked.names.variables k.of.key k.of.unit k.variable i x r k.of.is e q) in
      let long_data = both_long (CellMeans W live (suc W.program.variables)) (made v h).cells bytes both in
      let at = k.at in
      let size = b.size in
      let d = get_some bytes o (omega arith) in
      let loaded = f.bytes o d.0 d.1 in
      let here : byte_at g.image (W.variable_at v + o) ≡ Some d.0 = subst (λ z. byte_at g.image (z + o) ≡ Some d.0) (sym at) loaded in
      let out : InStack W (W.variable_at v + o) → ⊥ =
      b.off_stack (W.variable_at v + o) (record { is = h; from = omega arith; below = omega arith }) in
      let byte : byte_of mem (W.variable_at v + o) ≡ d.0 = byte_stays (W.variable_at v + o) out
      ∙ byte_off g.image g.layout.stack stack long (W.variable_at v + o) d.0 (off v o h (omega arith)) here in
      let c = both_get (CellMeans W live (suc W.program.variables)) (made v h).cells bytes Nothing 0 tt both o in
      subst (λ x. CellMeans W live (suc W.program.variables) (cell (made v h) o) x) (get_or_is bytes o d.0 0 d.1 ∙ sym byte) c

  cells_agree : CellsAgree W live (suc W.program.variables) mem
  cells_agree = record { at = λ b a o k l s. by b a o k (look W fits block blocks differ b a k l) s }
    where
      by : (b a o : ℕ) (k : Live) → IsLive W fits block blocks differ b a k → o < length k.cells
          → CellMeans W live (suc W.program.variables) (cell k o) (byte_of mem (a + o))
      by b a o k (IsRoot n e q) s =
          let c : cell k o ≡ Nothing = ap (λ (z : Live). cell z o) q ∙ blank_root o in
          rw c tt
      by b a o k (IsVariable n e q) s =
          let r : k ≡ made b n = q ∙ block_made b n in
          let s1 : o < length (made b n).cells = subst (λ (z : Live). o < length z.cells) r s in
          subst (λ (z : Live). CellMeans W live (suc W.program.variables) (cell z o) (byte_of mem (a + o))) (sym r)
          (subst (λ z. CellMeans W live (suc W.program.variables) (cell (made b n) o) (byte_of mem (z + o))) (sym e) (made_cells b o n s1))

  -- ---- the place

  abbrev entry : ℕ
  entry = known.linked.entry.key

  entry_is : unwrap_or (entry_key g.program.units g.program.entry) 0 ≡ entry
  entry_is = ap (λ o. unwrap_or o 0) known.linked.entry.first

  entry_target : is_target W.program (symbol_value (key_kinds g.program.units) entry (pos 0) 0) ≡ true
  entry_target = ap (λ k. is_target W.program (address_of entry k 0)) (kind_is g.program.units entry _ known.linked.entry.is)

  entry_means : Means W live (suc W.program.variables) (symbol_value (key_kinds g.program.units) entry (pos 0) 0) (key_address bs entry)
  entry_means =
      let l = kinds_long g.program.units in
      let b = get_below _ entry _ known.linked.entry.is in
      let k : entry < length W.program.kinds = omega arith in
      let r = fits.below entry k in
      let r1 : key_address bs entry ≤ 0xfffffff0 = r.1 in
      symbol_law W fits live (suc W.program.variables) laid entry (pos 0) 0 (key_address bs entry) k (omega arith)

  place : PlacesAgree W live (suc W.program.variables) (symbol_value (key_kinds g.program.units)
      (unwrap_or (entry_key g.program.units g.program.entry) 0) (pos 0) 0)
      (key_address bs (unwrap_or (entry_key g.program.units g.program.entry) 0))
  place =
      subst (λ e. PlacesAgree W live (suc W.program.variables) (symbol_value (key_kinds g.program.units) e (pos 0) 0) (key_address bs e))
      (sym entry_is)
      (record { target = entry_target; means = entry_means })

  -- ---- the whole

  pub related : (junk : Junk) → length junk.regs ≡ 32 → Related W (asm.first_state g.program) (first_state g bs junk stack)
  related junk wide =
      let b = blocks_down g.program.units in
      let files = first_files W live (suc W.program.variables) junk wide (omega arith) (root_home W fits block blocks differ) top_range in
      let l : root W.program.variables ∷ variable_blocks g.program.units (variable_keys g.program.units) ≡ live =
      ap (λ l. root W.program.variables ∷ l) b in
      related_by (root W.program.variables ∷ variable_blocks g.program.units (variable_keys g.program.units)) (sym l) files
    where
      related_by : (l : List Live) → live ≡ l
          → FilesAgree W live (suc W.program.variables) (asm.first_file W.program.variables) (flat_first_file g.layout junk)
          → Related W (record (asm.first_state g.program) { live = l }) (first_state g bs junk stack)
      related_by l e files =
          subst (λ l. Related W (record (asm.first_state g.program) { live = l }) (first_state g bs junk stack)) e (record {
            laid = laid;
            frame = omega arith;
            pointer = refl;
            files = files;
            cells = cells_agree;
            same = same;
            place = place;
          })

pub first_states_relate : FirstStatesRelate
first_states_relate g bs known stack long junk wide = related g bs known stack long junk wide

pub known_is_faithful : KnownIsFaithful
known_is_faithful g known stack long junk wide replies n fit =
    simulates (world_of g (addresses g) stack) (worlds_fit g (addresses g) stack known.layout known.linked known.facts long)
    (asm.first_state g.program) (first_state g (addresses g) junk stack) (related g (addresses g) known stack long junk wide) replies n fit
