-- The step laws at the place of an external, with its buffers, and at the stop point.
use Rattle.std.proofs.Common.{◌≡◌, ℕ, zero, suc, ◌+◌, ◌%◌, ◌<◌, ◌≤◌, ◌⊎◌, inl, inr, Bool, true, false, not, ◌&&◌, nat_lt, nat_le, List, []}
use Rattle.std.proofs.Common.{◌∷◌, length, map, take, Option, Some, None, option_map, refl, sym, ap, ap₂, ◌∙◌, subst, arith, if◌then◌else◌}
use Rattle.std.specs.Prelude.{◌==◌, find, is_some, unwrap_or, slice_index_or}
use Rattle.std.specs.List.{list_all}
use Rattle.std.specs.Option.{option_map_or}
use Rattle.std.proofs.lemmas.Bool.{eqb-true, eq-eqb, ne_eqb, and_parts, leb-true, le-ltb, cases_eq, not-true}
use Rattle.isa_model.specs.Word.{wrapped}
use Rattle.image_model.specs.Image.{Segment}
use Rattle.effect_model.specs.declared.Place.{Place}
use Rattle.effect_model.specs.declared.Place.TheVariants.{Gpr, Bit, Lr, Ctr, Ca, So, Unused}
use Rattle.effect_model.specs.Files.{File, get}
use Rattle.effect_model.specs.Calls.{volatile, put_each}
use Rattle.asm_syntax.specs.declared.unit.Width.{Width}
use Rattle.asm_syntax.specs.declared.unit.Width.TheVariants as widths
use Rattle.asm_syntax.specs.declared.unit.Sig.{Sig}
use Rattle.asm_syntax.specs.declared.unit.Size.{Size}
use Rattle.asm_syntax.specs.declared.unit.Size.TheVariants.{Fixed, Arg}
use Rattle.asm_syntax.specs.declared.unit.Buffer.{Buffer}
use Rattle.asm_syntax.specs.declared.unit.Reply.{Reply}
use Rattle.asm_shapes.specs.Signatures.{argument_registers}
use Rattle.call_bytes.specs.Calls.{register_at, held, arguments, size_of, first_fill, rest_fills}
use Rattle.flat_mem.specs.declared.memory.FaultKind.{FaultKind}
use Rattle.flat_mem.specs.declared.memory.FaultKind.TheVariants.{Unmapped, ReadOnly}
use Rattle.flat_mem.specs.declared.memory.FaultKind.TheVariants as faults
use Rattle.flat_mem.specs.Memory.{byte_of, is_mapped, may_write, set_bytes, each_from}
use Rattle.flat_mem.specs.Access.{next as after}
use Rattle.ppc_machine.specs.Buffers as flat
use Rattle.ppc_machine.specs.Buffers.{aligned, buffer_fault, or_else, buffers_fault, bytes_at}
use Rattle.ppc_machine.specs.Replies.{reply_word, reply_gprs}
use Rattle.ppc_machine.specs.State as ends
use Rattle.ppc_machine.specs.State.{FlatState, FlatEvent}
use Rattle.ppc_machine.specs.Steps as machine
use Rattle.ppc_machine.specs.Steps.{flat_step, at_external}
use Rattle.asm_mem.specs.declared.value.Val.{Val}
use Rattle.asm_mem.specs.declared.value.Val.TheVariants.{Undef, Int, Ptr, Code, Ext, Stop, Ha}
use Rattle.asm_mem.specs.declared.cell.Cell.{Cell}
use Rattle.asm_mem.specs.declared.cell.Cell.TheVariants as cells
use Rattle.asm_mem.specs.Cells.{byte_in, empty_word}
use Rattle.asm_mem.specs.Comparison.{is_valid, reaches}
use Rattle.asm_mem.specs.Blocks.{Live, has, cell, top, update, set_cell, set_cells, forget}
use Rattle.asm_step.specs.declared.answer.Why.TheVariants as whys
use Rattle.asm_step.specs.LinkedCode.{sig_of, is_target}
use Rattle.asm_step.specs.State as asm
use Rattle.asm_step.specs.State.{State}
use Rattle.asm_step.specs.Calls as calls
use Rattle.asm_step.specs.Calls.{is_argument, are_bytes, bytes_in, has_room, is_room, fits_size, buffer_fits, read_at, fill_at}
use Rattle.asm_step.specs.Calls.{result_gprs, result_value}
use Rattle.asm_step.specs.Steps.{finish}
use Rattle.machine_model.specs.Worlds.{World, home, base, shown, place_at}
use Rattle.machine_model.specs.Fits.{Fits}
use Rattle.machine_model.specs.Relation.{Framed, Means, Shows, Both, CellMeans, LiveAt, FilesAgree, PlacesAgree, Related, MemoryAgrees}
use Rattle.machine_model.specs.Leads.{EventShows, Leads, step_of}
use Rattle.value_laws.proofs.Both.{both_get}
use Rattle.value_laws.proofs.Lookups.{home_of, block_of}
use Rattle.value_laws.proofs.ValueLaws.{undef_means, int_means}
use Rattle.file_laws.specs.Laws.{reserved}
use Rattle.file_laws.proofs.FileLaws.{AllReserved, get_law, put_each_law, put_each_spares}
use Rattle.memory_laws.proofs.SegmentLaws.{each_law, same_mapped, same_write}
use Rattle.memory_laws.proofs.Keep.{Keeps, same_homes, means_keep, files_keep, place_keep}
use Rattle.memory_laws.proofs.BlockLaws.{Mild, set_cell_mild, update_then, find_other, home_update, top_update}
use Rattle.memory_laws.proofs.MemoryLaws.{set_cells_mild, update_id, lives_on, cells_law, forget_law}
use Rattle.step_laws.proofs.Targets.{target_law}
use Rattle.step_laws.proofs.PlainSteps.{memory_of}

are_free : List Place → Bool
are_free [] = true
are_free (p ∷ ps) = not (reserved p) && are_free ps

free_all : (ps : List Place) → are_free ps ≡ true → AllReserved ps
unfolding are_free
free_all [] h = tt
free_all (p ∷ ps) h = let q = and_parts (not (reserved p)) (are_free ps) h in (not-true (reserved p) q.0, free_all ps q.1)

volatile_free : AllReserved volatile
unfolding are_free
volatile_free = free_all volatile refl

module _ (w : World) (ok : Fits w) (next : ℕ) (f : File Val) (g : File ℕ) (sig : Sig) where
  argument_word : (live : List Live) (v : Val) (x : ℕ) → is_argument live v ≡ true → Means w live next v x → shown w live v ≡ Some x
  argument_word live (Int n) x h m = ap Some (sym m.shows)
  argument_word live (Code f i) x h m = ap Some (sym m.shows)
  argument_word live (Ext k o) x h m = ap Some (sym m.shows)
  argument_word live (Ptr b o) x h m = found (find (has b) live) refl h
    where
      found : (k : Option Live) → find (has b) live ≡ k → reaches k 0 ≡ true → shown w live (Ptr b o) ≡ Some x
      found None e s = cc
      found (Some k) e s =
          let r = home_of w live b k e in
          let q : x ≡ wrapped (r.0 + o) = subst (λ z. Shows (option_map (λ a. wrapped (a + o)) z) x) r.1.home_is m.shows in
          ap (λ z. option_map (λ a. wrapped (a + o)) z) r.1.home_is ∙ ap Some (sym q)
  argument_word live Undef x h m = cc
  argument_word live Stop x h m = cc
  argument_word live (Ha k o n) x h m = cc

  pub words_law : (live : List Live) → FilesAgree w live next f g → (rs : List ℕ) → list_all (is_argument live) (held Undef f rs) ≡ true
      → Both (λ (v : Val) (x : ℕ). shown w live v ≡ Some x) (held Undef f rs) (held 0 g rs)
  words_law live h [] e = tt
  words_law live h (r ∷ rs) e =
      let p = and_parts (is_argument live (get Undef f (Gpr r))) (list_all (is_argument live) (held Undef f rs)) e in
      (argument_word live _ _ p.0 (get_law w live next f g h (Gpr r)), words_law live h rs p.1)

  -- the length of a buffer
  size_law : (live : List Live) → FilesAgree w live next f g → (size : Size)
      → Means w live next (size_of Undef Int f sig size) (size_of 0 (λ n. n) g sig size)
  size_law live h (Fixed n) = int_means w live next n n refl
  size_law live h (Arg i) = get_law w live next f g h (Gpr (register_at sig i))

  -- ---- one buffer that fits

  -- n bytes from o on in a block, at address y
  pub record Room (live : List Live) (fills : Bool) (n : ℕ) (v : Val) (y : ℕ) : Type 0 where
    block : ℕ
    offset : ℕ
    at : ℕ
    of : Live
    is : v ≡ Ptr block offset
    lives : LiveAt w live block at of
    inside : offset + n ≤ length of.cells
    leave : (if fills then of.writable else are_bytes of offset n) ≡ true

  room_of : (live : List Live) (fills : Bool) (n : ℕ) (v : Val) (y : ℕ) → is_room live fills n v ≡ true → Room live fills n v y
  room_of live fills n (Ptr b o) y h = found (find (has b) live) refl h
    where
      found : (k : Option Live) → find (has b) live ≡ k → option_map_or (has_room fills n o) k false ≡ true → Room live fills n (Ptr b o) y
      found None e s = cc
      found (Some k) e s =
          let p = and_parts (nat_le (o + n) (length k.cells)) (if fills then k.writable else are_bytes k o n) s in
          let r = home_of w live b k e in
          record {
            block = b;
            offset = o;
            at = r.0;
            of = k;
            is = refl;
            lives = r.1;
            inside = leb-true (o + n) (length k.cells) p.0;
            leave = p.1;
          }
  room_of live fills n Undef y h = cc
  room_of live fills n (Int _) y h = cc
  room_of live fills n (Code _ _) y h = cc
  room_of live fills n (Ext _ _) y h = cc
  room_of live fills n Stop y h = cc
  room_of live fills n (Ha _ _ _) y h = cc

  room_at : (live : List Live) (mem : List Segment) → MemoryAgrees w live next mem
      → (fills : Bool) (n : ℕ) (v : Val) (y : ℕ) (r : Room live fills n v y) → Means w live next v y → y ≡ r.at + r.offset
  room_at live mem m fills n v y r means =
      let q : Means w live next (Ptr r.block r.offset) y = subst (λ z. Means w live next z y) r.is means in
      let e : y ≡ wrapped (r.at + r.offset) = subst (λ z. Shows (option_map (λ a. wrapped (a + r.offset)) z) y) r.lives.home_is q.shows in
      let hi = m.laid.high r.block r.at r.of r.lives in
      let i = r.inside in
      omega arith

  module _ (live : List Live) (mem : List Segment) (m : MemoryAgrees w live next mem) where
    maps_law : (fills : Bool) (n : ℕ) (v : Val) (y : ℕ) (r : Room live fills n v y) → Means w live next v y
        → each_from (is_mapped mem) n y ≡ true
    maps_law fills n v y r means =
        let hi = m.laid.high r.block r.at r.of r.lives in
        let i = r.inside in
        let e = room_at live mem m fills n v y r means in
        each_law (is_mapped mem) n y (omega arith) (λ j s. let q : r.at + (r.offset + j) ≡ y + j = omega arith in
        subst (λ z. is_mapped mem z ≡ true) q (same_mapped w mem m.same (r.at + (r.offset + j))
        ∙ m.laid.mapped r.block r.at (r.offset + j) r.of r.lives (omega arith)))

    writes_law : (n : ℕ) (v : Val) (y : ℕ) (r : Room live true n v y) → Means w live next v y → each_from (may_write mem) n y ≡ true
    writes_law n v y r means =
        let hi = m.laid.high r.block r.at r.of r.lives in
        let i = r.inside in
        let e = room_at live mem m true n v y r means in
        each_law (may_write mem) n y (omega arith) (λ j s. let q : r.at + (r.offset + j) ≡ y + j = omega arith in
        subst (λ z. may_write mem z ≡ true) q (same_write w mem m.same (r.at + (r.offset + j))
        ∙ m.laid.open_at r.block r.at (r.offset + j) r.of r.lives (omega arith) r.leave))

    -- bytes that are read
    read_bytes : (k : Live) (b a : ℕ) → LiveAt w live b a k → (n o y : ℕ) → y ≡ a + o → o + n ≤ length k.cells → are_bytes k o n ≡ true
        → bytes_in k o n ≡ bytes_at mem y n
    read_bytes k b a l zero o y e h t = refl
    read_bytes k b a l (suc n) o y e h t =
        let p = and_parts (is_some (byte_in (cell k o))) (are_bytes k (o + 1) n) t in
        let hi = m.laid.high b a k l in
        let c : CellMeans w live next (cell k o) (byte_of mem y) =
        subst (λ z. CellMeans w live next (cell k o) (byte_of mem z)) (sym e) (m.cells.at b a o k l (omega arith)) in
        ap₂ (λ x xs. x ∷ xs) (one (cell k o) (byte_of mem y) p.0 c) (read_bytes k b a l n (o + 1) (after y) (omega arith) (omega arith) p.1)
      where
        one : (c : Cell) (x : ℕ) → is_some (byte_in c) ≡ true → CellMeans w live next c x → unwrap_or (byte_in c) 0 ≡ x
        one (cells.Byte z) x h q = sym q
        one cells.Nothing x h q = cc
        one (cells.Part v j) x h q = cc

    empty_at : (v : Val) → read_at live v (Int 0) ≡ []
    empty_at (Ptr b o) = found (find (has b) live)
      where
        found : (k : Option Live) → option_map_or (λ k. bytes_in k o 0) k [] ≡ []
        found None = refl
        found (Some k) = refl
    empty_at Undef = refl
    empty_at (Int _) = refl
    empty_at (Code _ _) = refl
    empty_at (Ext _ _) = refl
    empty_at Stop = refl
    empty_at (Ha _ _ _) = refl

    -- what a buffer that fits is on the flat side
    record BufferAgrees (fills : Bool) (v : Val) (u : Val) (y n : ℕ) : Type 0 where
      size : u ≡ Int n
      sound : buffer_fault mem fills y n ≡ None
      reads : fills ≡ false → read_at live v u ≡ bytes_at mem y n
      room : (n ≡ 0) ⊎ Room live fills n v y

    no_fault : (fills : Bool) (y n : ℕ) → n ≤ 65536 → each_from (is_mapped mem) n y ≡ true
        → (fills ≡ true → each_from (may_write mem) n y ≡ true) → buffer_fault mem fills y n ≡ None
    no_fault fills y n h e1 e2 =
        ap (λ q. if q then Some faults.Buffer else if not (each_from (is_mapped mem) n y) then Some Unmapped else if fills then
        (if each_from (may_write mem) n y then None else Some ReadOnly) else None) (le-ltb 65536 n h)
        ∙ ap (λ q. if not q then Some Unmapped else if fills then
        (if each_from (may_write mem) n y then None else Some ReadOnly) else None) e1
        ∙ by fills e2
      where
        by : (b : Bool) → (b ≡ true → each_from (may_write mem) n y ≡ true)
            → (if b then (if each_from (may_write mem) n y then None else Some ReadOnly) else None) ≡ None
        by true k = ap (λ q. if q then None else Some ReadOnly) (k refl)
        by false k = refl

    fits_law : (fills : Bool) (v u : Val) (y x : ℕ) → Means w live next v y → Means w live next u x → fits_size live fills v u ≡ true
        → BufferAgrees fills v u y x
    fits_law fills v (Int n) y x mv mu h = subst (λ z. BufferAgrees fills v (Int n) y z) (sym mu.shows) (sized (n == 0) refl p.1)
      where
        p : (nat_le n 65536 ≡ true) × ((if n == 0 then true else is_room live fills n v) ≡ true)
        p = and_parts (nat_le n 65536) (if n == 0 then true else is_room live fills n v) h

        sized : (b : Bool) → (n == 0) ≡ b → (if b then true else is_room live fills n v) ≡ true → BufferAgrees fills v (Int n) y n
        sized true e t =
            let z = eqb-true n 0 e in
            subst (λ k. BufferAgrees fills v (Int k) y k) (sym z) (record {
              size = refl;
              sound = no_fault fills y 0 (omega arith) refl (λ q. refl);
              reads = λ q. empty_at v;
              room = inl refl;
            })
        sized false e t = by fills (room_of live fills n v y t)
          where
            by : (b : Bool) → Room live b n v y → BufferAgrees b v (Int n) y n
            by true r = record {
              size = refl;
              sound = no_fault true y n (leb-true n 65536 p.0) (maps_law true n v y r mv) (λ q. writes_law n v y r mv);
              reads =
                  λ q. cc;
              room = inr r;
            }
            by false r = record {
              size = refl;
              sound = no_fault false y n (leb-true n 65536 p.0) (maps_law false n v y r mv) (λ q. cc);
              reads = λ q. ap (λ z. read_at live z (Int n)) r.is ∙ ap (λ k. option_map_or (λ k. bytes_in k r.offset n) k []) r.lives.block
                  ∙ read_bytes r.of r.block r.at r.lives n r.offset y (room_at live mem m false n v y r mv) r.inside r.leave;
              room = inr r;
            }
    fits_law fills v Undef y x mv mu h = cc
    fits_law fills v (Ptr _ _) y x mv mu h = cc
    fits_law fills v (Code _ _) y x mv mu h = cc
    fits_law fills v (Ext _ _) y x mv mu h = cc
    fits_law fills v Stop y x mv mu h = cc
    fits_law fills v (Ha _ _ _) y x mv mu h = cc

    -- ---- all buffers

    module _ (h : FilesAgree w live next f g) where
      one_fits : (b : Buffer) → fits_size live b.fills (calls.buffer_at f sig b) (calls.buffer_size f sig b) ≡ true
          → BufferAgrees b.fills (calls.buffer_at f sig b) (calls.buffer_size f sig b) (flat.buffer_at g sig b) (flat.buffer_size g sig b)
      one_fits b t = fits_law b.fills _ _ _ _ (get_law w live next f g h (Gpr (register_at sig b.arg))) (size_law live h b.size) t

      pub faults_law : (bs : List Buffer) → list_all (buffer_fits live f sig) bs ≡ true → buffers_fault mem g sig bs ≡ None
      faults_law [] t = refl
      faults_law (b ∷ bs) t =
          let p = and_parts (fits_size live b.fills (calls.buffer_at f sig b) (calls.buffer_size f sig b))
          (list_all (buffer_fits live f sig) bs) t in
          ap (λ o. or_else o (buffers_fault mem g sig bs)) (one_fits b p.0).sound ∙ faults_law bs p.1

      pub reads_law : (bs : List Buffer) → list_all (buffer_fits live f sig) bs ≡ true → calls.reads live f sig bs ≡ flat.reads mem g sig bs
      reads_law [] t = refl
      reads_law (b ∷ bs) t = at b.fills refl (reads_law bs p.1)
        where
          p : (fits_size live b.fills (calls.buffer_at f sig b) (calls.buffer_size f sig b) ≡ true)
              × (list_all (buffer_fits live f sig) bs ≡ true)
          p = and_parts (fits_size live b.fills (calls.buffer_at f sig b) (calls.buffer_size f sig b))
              (list_all (buffer_fits live f sig) bs) t

          at : (q : Bool) → b.fills ≡ q → calls.reads live f sig bs ≡ flat.reads mem g sig bs
              → (if q then calls.reads live f sig bs else read_at live (calls.buffer_at f sig b)
              (calls.buffer_size f sig b) ∷ calls.reads live f sig bs)
              ≡ (if q then flat.reads mem g sig bs else bytes_at mem (flat.buffer_at g sig b)
              (flat.buffer_size g sig b) ∷ flat.reads mem g sig bs)
          at true e r = r
          at false e r = ap₂ (λ x xs. x ∷ xs) ((one_fits b p.0).reads e) r

  -- ---- fills

  home_fill : (live : List Live) (v u : Val) (xs : List ℕ) (d : ℕ) → home w (fill_at live v u xs) d ≡ home w live d
  home_fill live (Ptr b o) (Int n) xs d =
      home_update b (λ k. set_cells k o (map cells.Byte (take n xs))) (set_cells_mild (map cells.Byte (take n xs)) o) w live d
  home_fill live (Ptr b o) Undef xs d = refl
  home_fill live (Ptr b o) (Ptr _ _) xs d = refl
  home_fill live (Ptr b o) (Code _ _) xs d = refl
  home_fill live (Ptr b o) (Ext _ _) xs d = refl
  home_fill live (Ptr b o) Stop xs d = refl
  home_fill live (Ptr b o) (Ha _ _ _) xs d = refl
  home_fill live Undef u xs d = refl
  home_fill live (Int _) u xs d = refl
  home_fill live (Code _ _) u xs d = refl
  home_fill live (Ext _ _) u xs d = refl
  home_fill live Stop u xs d = refl
  home_fill live (Ha _ _ _) u xs d = refl

  bytes_mean : (live : List Live) (xs : List ℕ) → Both (CellMeans w live next) (map cells.Byte xs) xs
  bytes_mean live [] = tt
  bytes_mean live (x ∷ xs) = (refl, bytes_mean live xs)

  length-bytes : (xs : List ℕ) → length (map cells.Byte xs) ≡ length xs
  length-bytes [] = refl
  length-bytes (x ∷ xs) = let q = length-bytes xs in omega arith

  take_short : (n : ℕ) (xs : List ℕ) → length (take n xs) ≤ n
  take_short zero xs = omega arith
  take_short (suc n) [] = omega arith
  take_short (suc n) (x ∷ xs) = let q = take_short n xs in omega arith

  -- a block that is there is there after a change
  record Still (live : List Live) (c a : ℕ) (k : Live) : Type 0 where
    of : Live
    lives : LiveAt w live c a of
    size : length of.cells ≡ length k.cells
    writable : of.writable ≡ k.writable

  still : (live : List Live) (b : ℕ) (h : Live → Live) → Mild h → (c a : ℕ) (k : Live) → LiveAt w live c a k → Still (update b h live) c a k
  still live b h m c a k l = at (cases_eq c b)
    where
      at : (c ≡ b) ⊎ (c ≡ b → ⊥) → Still (update b h live) c a k
      at (inl e) =
          subst (λ z. Still (update z h live) c a k) e (record {
            of = h k;
            lives = lives_on w next live c a k h m l;
            size = m.size k;
            writable = m.writable k;
          })
      at (inr n) = record {
        of = k;
        lives = record {
          home_is = home_update b h m w live c ∙ l.home_is;
          block = find_other b h m live c n
              ∙ l.block;
        };
        size = refl;
        writable = refl;
      }

  -- room for each buffer that is filled
  abbrev pub RoomFor : List Live → Buffer → Type 0
  RoomFor live b =
      b.fills ≡ true → (calls.buffer_size f sig b ≡ Int (flat.buffer_size g sig b))
      × ((flat.buffer_size g sig b ≡ 0) ⊎ Room live true (flat.buffer_size g sig b) (calls.buffer_at f sig b) (flat.buffer_at g sig b))

  abbrev pub Rooms : List Live → List Buffer → Type 0
  Rooms live [] = Unit {0}
  Rooms live (b ∷ bs) = RoomFor live b × Rooms live bs

  rooms_law : (live : List Live) (mem : List Segment) (m : MemoryAgrees w live next mem) (h : FilesAgree w live next f g) (bs : List Buffer)
      → list_all (buffer_fits live f sig) bs ≡ true → Rooms live bs
  rooms_law live mem m h [] t = tt
  rooms_law live mem m h (b ∷ bs) t =
      let p = and_parts (fits_size live b.fills (calls.buffer_at f sig b) (calls.buffer_size f sig b))
      (list_all (buffer_fits live f sig) bs) t in
      let o = one_fits live mem m h b p.0 in (
        (λ e. (
          o.size,
          subst (λ z. (flat.buffer_size g sig b ≡ 0)
              ⊎ Room live z (flat.buffer_size g sig b) (calls.buffer_at f sig b) (flat.buffer_at g sig b)) e o.room,
        )),
        rooms_law live mem m h bs p.1,
      )

  room_on : (live : List Live) (c : ℕ) (h : Live → Live) → Mild h → (b : Buffer) → RoomFor live b → RoomFor (update c h live) b
  room_on live c h m b r e = let q = r e in (q.0, at q.1)
    where
      at : (flat.buffer_size g sig b ≡ 0) ⊎ Room live true (flat.buffer_size g sig b) (calls.buffer_at f sig b) (flat.buffer_at g sig b)
          → (flat.buffer_size g sig b ≡ 0) ⊎ Room (update c h live) true (flat.buffer_size g sig b) (calls.buffer_at f sig b)
          (flat.buffer_at g sig b)
      at (inl z) = inl z
      at (inr r) =
          let s = still live c h m r.block r.at r.of r.lives in
          let i = r.inside in let z = s.size in
          inr (record {
            block = r.block;
            offset = r.offset;
            at = r.at;
            of = s.of;
            is = r.is;
            lives = s.lives;
            inside = omega arith;
            leave = s.writable ∙ r.leave;
          })

  rooms_on : (live : List Live) (c : ℕ) (h : Live → Live) → Mild h → (bs : List Buffer) → Rooms live bs → Rooms (update c h live) bs
  rooms_on live c h m [] r = tt
  rooms_on live c h m (b ∷ bs) r = (room_on live c h m b r.0, rooms_on live c h m bs r.1)

  -- what fills leave
  pub record Filled (live : List Live) (live' : List Live) (mem' : List Segment) : Type 0 where
    agrees : MemoryAgrees w live' next mem'
    homes : (d : ℕ) → home w live' d ≡ home w live d
    top_stays : top live' ≡ top live

  none_taken : (xs : List ℕ) → take 0 xs ≡ []
  none_taken xs = refl

  fill_one : (live : List Live) (mem : List Segment) (b : Buffer) (xs : List ℕ) (bs : List Buffer) → MemoryAgrees w live next mem
      → Means w live next (calls.buffer_at f sig b) (flat.buffer_at g sig b) → RoomFor live b → b.fills ≡ true → Rooms live bs
      → Filled live (fill_at live (calls.buffer_at f sig b) (calls.buffer_size f sig b) xs)
      (set_bytes mem (flat.buffer_at g sig b) (take (flat.buffer_size g sig b) xs))
      × Rooms (fill_at live (calls.buffer_at f sig b) (calls.buffer_size f sig b) xs) bs
  fill_one live mem b xs bs m mv r e rs = let q = r e in
      subst (λ u. Filled live (fill_at live v u xs) (set_bytes mem y (take n xs)) × Rooms (fill_at live v u xs) bs) (sym q.0) (at q.1)
    where
      n : ℕ
      n = flat.buffer_size g sig b

      v : Val
      v = calls.buffer_at f sig b

      y : ℕ
      y = flat.buffer_at g sig b

      none : (z : Val) → Filled live (fill_at live z (Int 0) xs) mem × Rooms (fill_at live z (Int 0) xs) bs
      none (Ptr c o) =
          subst (λ l. Filled live l mem × Rooms l bs) (sym (update_id c live))
          (record { agrees = m; homes = λ d. refl; top_stays = refl }, rs)
      none Undef = (record { agrees = m; homes = λ d. refl; top_stays = refl }, rs)
      none (Int _) = (record { agrees = m; homes = λ d. refl; top_stays = refl }, rs)
      none (Code _ _) = (record { agrees = m; homes = λ d. refl; top_stays = refl }, rs)
      none (Ext _ _) = (record { agrees = m; homes = λ d. refl; top_stays = refl }, rs)
      none Stop = (record { agrees = m; homes = λ d. refl; top_stays = refl }, rs)
      none (Ha _ _ _) = (record { agrees = m; homes = λ d. refl; top_stays = refl }, rs)

      at : (n ≡ 0) ⊎ Room live true n v y
          → Filled live (fill_at live v (Int n) xs) (set_bytes mem y (take n xs)) × Rooms (fill_at live v (Int n) xs) bs
      at (inl z) =
          subst (λ k. Filled live (fill_at live v (Int k) xs) (set_bytes mem y (take k xs)) × Rooms (fill_at live v (Int k) xs) bs)
          (sym z) (none v)
      at (inr p) =
          let cs = map cells.Byte (take n xs) in
          let fn = λ (k : Live). set_cells k p.offset cs in
          let mild = set_cells_mild cs p.offset in
          let short = take_short n xs in
          let count = length-bytes (take n xs) in
          let i = p.inside in
          let a = cells_law w next cs (take n xs) live mem p.block p.at p.offset p.of p.lives (omega arith) p.leave
          (bytes_mean live (take n xs)) m in
          subst (λ z. Filled live (fill_at live z (Int n) xs) (set_bytes mem y (take n xs)) × Rooms (fill_at live z (Int n) xs) bs)
          (sym p.is) (
            record {
              agrees = subst (λ z. MemoryAgrees w (update p.block fn live) next (set_bytes mem z (take n xs)))
                  (sym (room_at live mem m true n v y p mv)) a;
              homes = home_update p.block fn mild w live;
              top_stays = top_update p.block fn mild live;
            },
            rooms_on live p.block fn mild bs rs,
          )

  pub fills_law : (bs : List Buffer) (fills : List (List ℕ)) (live : List Live) (mem : List Segment) → MemoryAgrees w live next mem
      → ((b : Buffer) → Means w live next (calls.buffer_at f sig b) (flat.buffer_at g sig b)) → Rooms live bs
      → Filled live (calls.filled live f sig bs fills) (flat.filled mem g sig bs fills)
  fills_law [] fills live mem m mv rs = record { agrees = m; homes = λ d. refl; top_stays = refl }
  fills_law (b ∷ bs) fills live mem m mv rs = at b.fills refl (λ fs l n a v q. fills_law bs fs l n a v q)
    where
      at : (q : Bool) → b.fills ≡ q
          → ((fs : List (List ℕ)) (l : List Live) (n : List Segment) → MemoryAgrees w l next n
          → ((c : Buffer) → Means w l next (calls.buffer_at f sig c) (flat.buffer_at g sig c)) → Rooms l bs
          → Filled l (calls.filled l f sig bs fs) (flat.filled n g sig bs fs))
          → Filled live (if q then calls.filled (fill_at live (calls.buffer_at f sig b) (calls.buffer_size f sig b)
          (first_fill fills)) f sig bs (rest_fills fills) else calls.filled live f sig bs fills)
          (if q then flat.filled (set_bytes mem (flat.buffer_at g sig b) (take (flat.buffer_size g sig b) (first_fill fills))) g sig bs
          (rest_fills fills) else flat.filled mem g sig bs fills)
      at false e go = go fills live mem m mv rs.1
      at true e go =
          let o = fill_one live mem b (first_fill fills) bs m (mv b) rs.0 e rs.1 in
          let keep = same_homes w live (fill_at live (calls.buffer_at f sig b) (calls.buffer_size f sig b)
          (first_fill fills)) next o.0.homes in
          let r = go (rest_fills fills) _ _ o.0.agrees (λ c. means_keep w live next _ next keep _ _ (mv c)) o.1 in
          record { agrees = r.agrees; homes = λ d. r.homes d ∙ o.0.homes d; top_stays = r.top_stays ∙ o.0.top_stays }

-- ---- the save word of LR

abbrev Nothings : List Cell → Type 0
Nothings [] = Unit {0}
Nothings (c ∷ cs) = (c ≡ cells.Nothing) × Nothings cs

forgets_law : (w : World) (next : ℕ) (mem : List Segment) (cs : List Cell) (live : List Live) (b a o : ℕ) (k : Live) → LiveAt w live b a k
    → Nothings cs → MemoryAgrees w live next mem → MemoryAgrees w (update b (λ j. set_cells j o cs) live) next mem
forgets_law w next mem [] live b a o k l z g = subst (λ z. MemoryAgrees w z next mem) (sym (update_id b live)) g
forgets_law w next mem (c ∷ cs) live b a o k l z g =
    let fn = λ (j : Live). set_cell j o c in
    let g1 = forget_law w next live mem b a o k c l g z.0 in
    let r = forgets_law w next mem cs (update b fn live) b a (o + 1) (fn k) (lives_on w next live b a k fn (set_cell_mild o c) l) z.1 g1 in
    subst (λ z. MemoryAgrees w z next mem) (sym (update_then b fn (λ j. set_cells j (o + 1) cs) (λ j. refl) live)) r

-- the newest frame is there, and has 16 bytes or more
top_lives : (w : World) (live : List Live) → Framed w live → (a : ℕ) × ((k : Live) × LiveAt w live (top live) a k)
top_lives w [] h = absurd h
top_lives w (k ∷ ks) h =
    (base w (k ∷ ks), (k, record { home_is = rw (eq-eqb k.number k.number refl) refl; block = rw (eq-eqb k.number k.number refl) refl }))

module _ (w : World) (ok : Fits w) (s : State) (t : FlatState) (r : Related w s t) where
  module _ (x o : ℕ) (sig : Sig) (place : s.place ≡ Ext x o) (is : sig_of w.program x ≡ Some sig) where
    flat_is : (p : Option Reply)
        → step_of w t p ≡ machine.called t (record { number = x; sig = sig }) p (buffers_fault t.mem t.file sig sig.buffers)
    unfolding flat_step
    flat_is p =
        let m : Means w s.live s.next (Ext x o) t.pc = subst (λ v. Means w s.live s.next v t.pc) place r.place.means in
        let target : is_target w.program (Ext x o) ≡ true = subst (λ v. is_target w.program v ≡ true) place r.place.target in
        let z = eqb-true o 0 (and_parts (o == 0) (is_some (sig_of w.program x)) target).0 in
        let c = ok.externals x sig is in
        let b = ok.below x m.named in
        let b1 = b.1 in
        let q : t.pc ≡ wrapped (w.address x + o) = m.shows in
        let e : t.pc ≡ w.address x = omega arith in
        ap (λ z. if z == w.layout.stop then ends.Ended (get 0 t.file (Gpr 3)) else at_external t p (w.outside z)) e
        ∙ ap (λ q. if q then ends.Ended (get 0 t.file (Gpr 3)) else at_external t p (w.outside (w.address x)))
        (ne_eqb (w.address x) w.layout.stop c.not_stop)
        ∙ ap (at_external t p) c.called

    result_means : (q : Reply) (p : Place) → Means w s.live s.next (result_value sig.result q p) (reply_word q p)
    result_means q (Gpr n) = by sig.result n
      where
        by : (width : Option Width) (n : ℕ)
            → Means w s.live s.next (slice_index_or (result_gprs width q) n Undef) (slice_index_or (reply_gprs q) n 0)
        by None n = undef_means w s.live s.next _
        by (Some widths.Word) zero = undef_means w s.live s.next _
        by (Some widths.Word) (suc zero) = undef_means w s.live s.next _
        by (Some widths.Word) (suc (suc zero)) = undef_means w s.live s.next _
        by (Some widths.Word) (suc (suc (suc zero))) = int_means w s.live s.next _ _ refl
        by (Some widths.Word) (suc (suc (suc (suc n)))) = undef_means w s.live s.next _
        by (Some widths.Long) zero = undef_means w s.live s.next _
        by (Some widths.Long) (suc zero) = undef_means w s.live s.next _
        by (Some widths.Long) (suc (suc zero)) = undef_means w s.live s.next _
        by (Some widths.Long) (suc (suc (suc zero))) = int_means w s.live s.next _ _ refl
        by (Some widths.Long) (suc (suc (suc (suc zero)))) = int_means w s.live s.next _ _ refl
        by (Some widths.Long) (suc (suc (suc (suc (suc n))))) = undef_means w s.live s.next _
    result_means q (Bit n) = undef_means w s.live s.next _
    result_means q Lr = undef_means w s.live s.next _
    result_means q Ctr = undef_means w s.live s.next _
    result_means q Ca = undef_means w s.live s.next _
    result_means q So = undef_means w s.live s.next _
    result_means q Unused = undef_means w s.live s.next _

    returned_law : (q : Reply) → is_target w.program s.file.lr ≡ true → list_all (buffer_fits s.live s.file sig) sig.buffers ≡ true
        → Related w (calls.returned s sig q) (flat.returned (record { number = x; sig = sig }) t q)
    returned_law q h2 h3 =
        let m0 = memory_of w s t r in
        let rooms = rooms_law w ok s.next s.file t.file sig s.live t.mem m0 r.files sig.buffers h3 in
        let fl = fills_law w ok s.next s.file t.file sig sig.buffers q.fills s.live t.mem m0
        (λ b. get_law w s.live s.next s.file t.file r.files (Gpr (register_at sig b.arg))) rooms in
        let live1 = calls.filled s.live s.file sig sig.buffers q.fills in
        let tl = top_lives w live1 fl.agrees.frame in
        let mild = set_cells_mild empty_word 4 in
        let g = forgets_law w s.next _ empty_word live1 (top live1) tl.0 4 tl.1.0 tl.1.1 (refl, (refl, (refl, (refl, tt)))) fl.agrees in
        let live2 = forget live1 in
        let keep = same_homes w s.live live2 s.next (λ d. home_update (top live1) (λ k. set_cells k 4 empty_word) mild w live1 d
        ∙ fl.homes d) in
        let f1 = put_each_law w s.live s.next (result_value sig.result q) (reply_word q) volatile volatile_free
        (result_means q) s.file t.file r.files in
        record {
          laid = g.laid;
          frame = g.frame;
          cells = g.cells;
          same = g.same;
          pointer = put_each_spares (result_value sig.result q) volatile s.file volatile_free ∙ r.pointer
              ∙ ap (λ n. Ptr n 0) (sym (top_update (top live1) (λ k. set_cells k 4 empty_word) mild live1 ∙ fl.top_stays));
          files = files_keep w s.live s.next live2 s.next keep _ _ f1;
          place = place_keep w s.live s.next live2 s.next keep _ _ (target_law w ok s.live s.next s.file.lr t.file.lr h2 r.files.lr);
        }

    pub call_step : (p : Option Reply) → Leads w s t p (calls.called w.program x s p (Some sig))
    call_step p = test1 (list_all (is_argument s.live) (arguments Undef s.file sig)) refl
      where
        test3 : (b : Bool) → list_all (is_argument s.live) (arguments Undef s.file sig) ≡ true → is_target w.program s.file.lr ≡ true
            → list_all (buffer_fits s.live s.file sig) sig.buffers ≡ b
            → Leads w s t p (if not b then asm.Undefined whys.Buffer else calls.answered x s sig p)
        test3 false h1 h2 h3 = tt
        test3 true h1 h2 h3 = by p
          where
            sound : buffers_fault t.mem t.file sig sig.buffers ≡ None
            sound = faults_law w ok s.next s.file t.file sig s.live t.mem (memory_of w s t r) r.files sig.buffers h3

            by : (p : Option Reply) → Leads w s t p (calls.answered x s sig p)
            by None = flat_is None ∙ ap (machine.called t (record { number = x; sig = sig }) None) sound
            by (Some q) =
                let rd = reads_law w ok s.next s.file t.file sig s.live t.mem (memory_of w s t r) r.files sig.buffers h3 in
                let ws = words_law w ok s.next s.file t.file sig s.live r.files (argument_registers sig.args) h1 in (
                  flat.event (record { number = x; sig = sig }) t,
                  flat.returned (record { number = x; sig = sig }) t q,
                  flat_is (Some q) ∙ ap (machine.called t (record { number = x; sig = sig }) (Some q)) sound,
                  record { number = refl; words = ws; reads = sym rd },
                  returned_law q h2 h3,
                )

        test2 : (b : Bool) → list_all (is_argument s.live) (arguments Undef s.file sig) ≡ true → is_target w.program s.file.lr ≡ b
            → Leads w s t p (if not b then asm.Undefined whys.Target else if not
            (list_all (buffer_fits s.live s.file sig) sig.buffers) then asm.Undefined whys.Buffer else calls.answered x s sig p)
        test2 false h1 h2 = tt
        test2 true h1 h2 = test3 (list_all (buffer_fits s.live s.file sig) sig.buffers) h1 h2 refl

        test1 : (b : Bool) → list_all (is_argument s.live) (arguments Undef s.file sig) ≡ b
            → Leads w s t p (if not b then asm.Undefined whys.Argument else if not
            (is_target w.program s.file.lr) then asm.Undefined whys.Target else if not
            (list_all (buffer_fits s.live s.file sig) sig.buffers) then asm.Undefined whys.Buffer else calls.answered x s sig p)
        test1 false h1 = tt
        test1 true h1 = test2 (is_target w.program s.file.lr) h1 refl

pub stop_step : (w : World) (s : State) (t : FlatState) → Related w s t → s.place ≡ Stop → (p : Option Reply)
    → Leads w s t p (finish (get Undef s.file (Gpr 3)))
unfolding flat_step
stop_step w s t r place p = at (get Undef s.file (Gpr 3)) (get_law w s.live s.next s.file t.file r.files (Gpr 3))
  where
    at : (v : Val) → Means w s.live s.next v (get 0 t.file (Gpr 3)) → Leads w s t p (finish v)
    at (Int n) m =
        let q : Means w s.live s.next Stop t.pc = subst (λ v. Means w s.live s.next v t.pc) place r.place.means in
        ap (λ b. if b then ends.Ended (get 0 t.file (Gpr 3)) else at_external t p (w.outside t.pc)) (eq-eqb t.pc w.layout.stop q.shows)
        ∙ ap ends.Ended m.shows
    at Undef m = tt
    at (Ptr _ _) m = tt
    at (Code _ _) m = tt
    at (Ext _ _) m = tt
    at Stop m = tt
    at (Ha _ _ _) m = tt
