-- A defined load or store of the assembly is one of the image, in all forms.
use Rattle.std.proofs.Common.{◌≡◌, ℕ, zero, suc, ◌+◌, ◌*◌, ◌/◌, ◌%◌, ◌<◌, ◌≤◌, Bool, true, false, not, ◌&&◌, nat_le, List, [], ◌∷◌, length}
use Rattle.std.proofs.Common.{Option, Some, None, refl, sym, ap, ap₂, ◌∙◌, subst, arith, if◌then◌else◌}
use Rattle.std.specs.Prelude.{◌==◌, find, option_map, option_and_then, Result, Ok, Err}
use Rattle.std.specs.Int.{cast_unsigned, w32}
use Rattle.std.proofs.lemmas.Bool.{eqb-true, and_parts, leb-true}
use Rattle.isa_model.specs.Word.{wrapped, sext16}
use Rattle.image_model.specs.Image.{Segment}
use Rattle.effect_model.specs.declared.Form.{Form}
use Rattle.effect_model.specs.declared.Form.TheVariants.{Word, Half, Byte, SignedHalf, ReversedWord, ReversedHalf}
use Rattle.flat_mem.specs.declared.memory.FaultKind.{FaultKind}
use Rattle.flat_mem.specs.declared.memory.FaultKind.TheVariants.{Unmapped, ReadOnly}
use Rattle.flat_mem.specs.Memory.{byte_of, is_mapped, may_write, set_bytes, each_from}
use Rattle.effect_model.specs.Forms.{width}
use Rattle.flat_mem.specs.Access.{word, half, next, value_of, bytes_of, loaded, stored}
use Rattle.asm_mem.specs.declared.value.Val.{Val}
use Rattle.asm_mem.specs.declared.value.Val.TheVariants.{Undef, Int, Ptr, Code, Ext, Stop, Ha}
use Rattle.asm_mem.specs.declared.cell.Cell.{Cell}
use Rattle.asm_mem.specs.declared.cell.Cell.TheVariants as cells
use Rattle.asm_mem.specs.Values.{same_val, same_offset}
use Rattle.asm_mem.specs.Cells.{joined, four_bytes, half_word, byte_word, part_of, low_cell}
use Rattle.asm_mem.specs.Blocks.{Live, has, cell, top, may_read, may_write_found, may_store, update, set_cells}
use Rattle.asm_values.specs.Accesses.{changed, value_by, cells_by, read_by, load_by, stored_by}
use Rattle.machine_model.specs.Worlds.{World, home, shown}
use Rattle.machine_model.specs.Fits.{Fits}
use Rattle.machine_model.specs.Relation.{Shows, Means, Both, PartShows, CellMeans, LiveAt, Laid, MemoryAgrees, byte_of_word}
use Rattle.value_laws.proofs.Halves.{sext16_is}
use Rattle.value_laws.proofs.Lookups.{home_of}
use Rattle.value_laws.proofs.ValueLaws.{undef_means, int_means, code_below, stop_below}
use Rattle.memory_laws.proofs.BlockLaws.{home_update, top_update}
use Rattle.memory_laws.proofs.MemoryLaws.{set_cells_mild, cells_law}
use Rattle.memory_laws.specs.Laws.{Written, LoadAgrees}
use Rattle.memory_laws.proofs.SegmentLaws.{each_law, same_mapped, same_write}

pub same_val_is : (w : World) (live : List Live) (u v : Val) → same_val u v ≡ true → shown w live u ≡ shown w live v
same_val_is w live Undef Undef e = refl
same_val_is w live (Int a) (Int b) e = ap Some (eqb-true a b e)
same_val_is w live (Ptr a b) (Ptr c d) e = let p = and_parts (a == c) (b == d) e in
    ap₂ (λ x y. shown w live (Ptr x y)) (eqb-true a c p.0) (eqb-true b d p.1)
same_val_is w live (Code a b) (Code c d) e = let p = and_parts (a == c) (b == d) e in
    ap₂ (λ x y. shown w live (Code x y)) (eqb-true a c p.0) (eqb-true b d p.1)
same_val_is w live (Ext a b) (Ext c d) e = let p = and_parts (a == c) (b == d) e in
    ap₂ (λ x y. shown w live (Ext x y)) (eqb-true a c p.0) (eqb-true b d p.1)
same_val_is w live Stop Stop e = refl
same_val_is w live (Ha k a b) (Ha l c d) e =
    let p = and_parts (k == l && same_offset a c) (b == d) e in
    let q = and_parts (k == l) (same_offset a c) p.0 in
    let e1 : wrapped (w.address k + cast_unsigned w32 a) ≡ wrapped (w.address l + cast_unsigned w32 c) =
    ap₂ (λ x y. wrapped (w.address x + y)) (eqb-true k l q.0) (eqb-true (cast_unsigned w32 a) (cast_unsigned w32 c) q.1) in
    ap₂ (λ x y. Some (wrapped (Rattle.isa_model.specs.Word.ha x * 65536 + y))) e1 (eqb-true b d p.1)
same_val_is w live _ _ e = cc

bytes_join : (y : ℕ) → y < 4294967296 → word (byte_of_word y 0) (byte_of_word y 1) (byte_of_word y 2) (byte_of_word y 3) ≡ y
bytes_join y h = omega arith

cells_count : (form : Form) (v : Val) → length (cells_by form v) ≡ width form
cells_count Word v = refl
cells_count Half v = refl
cells_count Byte v = refl
cells_count SignedHalf v = refl
cells_count ReversedWord v = refl
cells_count ReversedHalf v = refl

module _ (w : World) (ok : Fits w) (live : List Live) (next : ℕ) (laid : Laid w live next) where
  -- ---- values as cells

  pointed : (h : Option ℕ) (o x : ℕ) → Shows (option_map (λ a. wrapped (a + o)) h) x → (j : ℕ)
      → PartShows (option_map (λ a. wrapped (a + o)) h) j (byte_of_word x j)
  pointed None o x e j = tt
  pointed (Some a) o x e j = (omega arith, ap (λ z. byte_of_word z j) e)

  pub part_law : (v : Val) (x : ℕ) → Means w live next v x → (j : ℕ) → ((n : ℕ) → v ≡ Int n → ⊥)
      → CellMeans w live next (cells.Part v j) (byte_of_word x j)
  part_law Undef x m j h = (tt, tt)
  part_law (Int n) x m j h = absurd (h n refl)
  part_law (Ptr b o) x m j h = (m.named, pointed (home w live b) o x m.shows j)
  part_law (Code f i) x m j h = let l = code_below w ok live next laid f i x m in let e = m.shows in
      (m.named, (omega arith, ap (λ z. byte_of_word z j) m.shows))
  part_law (Ext k o) x m j h = (m.named, (omega arith, ap (λ z. byte_of_word z j) m.shows))
  part_law Stop x m j h = let l = stop_below w ok live next laid x m in let e = m.shows in
      (tt, (omega arith, ap (λ z. byte_of_word z j) m.shows))
  part_law (Ha k o n) x m j h = (m.named, (omega arith, ap (λ z. byte_of_word z j) m.shows))

  parts_law : (v : Val) (x : ℕ) → Means w live next v x → ((n : ℕ) → v ≡ Int n → ⊥)
      → Both (CellMeans w live next) (cells.Part v 0 ∷ cells.Part v 1 ∷ cells.Part v 2 ∷ cells.Part v 3 ∷ []) (bytes_of Word x)
  parts_law v x m h = (part_law v x m 0 h, (part_law v x m 1 h, (part_law v x m 2 h, (part_law v x m 3 h, tt))))

  pub word_cells : (v : Val) (x : ℕ) → Means w live next v x → Both (CellMeans w live next) (cells_by Word v) (bytes_of Word x)
  word_cells (Int n) x m = (
    ap (λ z. z / 16777216 % 256) m.shows,
    (
      ap (λ z. z / 65536 % 256) m.shows,
      (ap (λ z. z / 256 % 256) m.shows, (ap (λ z. z % 256) m.shows, tt)),
    ),
  )
  word_cells Undef x m = parts_law Undef x m (λ n e. cc)
  word_cells (Ptr b o) x m = parts_law (Ptr b o) x m (λ n e. cc)
  word_cells (Code b o) x m = parts_law (Code b o) x m (λ n e. cc)
  word_cells (Ext b o) x m = parts_law (Ext b o) x m (λ n e. cc)
  word_cells Stop x m = parts_law Stop x m (λ n e. cc)
  word_cells (Ha k b o) x m = parts_law (Ha k b o) x m (λ n e. cc)

  low_law : (v : Val) (x : ℕ) → Means w live next v x → (m : ℕ) → CellMeans w live next (low_cell v m) (x / m % 256)
  low_law (Int n) x h m = ap (λ z. z / m % 256) h.shows
  low_law Undef x h m = tt
  low_law (Ptr b o) x h m = tt
  low_law (Code b o) x h m = tt
  low_law (Ext b o) x h m = tt
  low_law Stop x h m = tt
  low_law (Ha k b o) x h m = tt

  ones_law : (v : Val) (x : ℕ) → Means w live next v x → CellMeans w live next (low_cell v 1) (x % 256)
  ones_law v x h = let e : x / 1 % 256 ≡ x % 256 = omega arith in subst (λ z. CellMeans w live next (low_cell v 1) z) e (low_law v x h 1)

  pub cells_by_law : (form : Form) (v : Val) (x : ℕ) → Means w live next v x
      → Both (CellMeans w live next) (cells_by form v) (bytes_of form x)
  cells_by_law Word v x m = word_cells v x m
  cells_by_law Half v x m = (low_law v x m 256, (ones_law v x m, tt))
  cells_by_law Byte v x m = (ones_law v x m, tt)
  cells_by_law SignedHalf v x m = (low_law v x m 256, (ones_law v x m, tt))
  cells_by_law ReversedWord v x m = (ones_law v x m, (low_law v x m 256, (low_law v x m 65536, (low_law v x m 16777216, tt))))
  cells_by_law ReversedHalf v x m = (ones_law v x m, (low_law v x m 256, tt))

module _ (w : World) (ok : Fits w) (live : List Live) (next : ℕ) (mem : List Segment) (g : MemoryAgrees w live next mem) where
  -- ---- stores

  -- at a block that is there
  pub store_at : (form : Form) (b a o y : ℕ) (k : Live) (v : Val) (x : ℕ) → LiveAt w live b a k → o + width form ≤ length k.cells
      → k.writable ≡ true → y ≡ wrapped (a + o) → Means w live next v x
      → Written w live next (update b (λ j. set_cells j o (cells_by form v)) live) (stored mem form y x)
  store_at form b a o y k v x l ho hw e m =
      let hi = g.laid.high b a k l in
      let e1 : y ≡ a + o = omega arith in
      let opens = each_law (may_write mem) (width form) (a + o) (omega arith) (λ i h. let q : a + (o + i) ≡ a + o + i = omega arith in
      subst (λ z. may_write mem z ≡ true) q (same_write w mem g.same (a + (o + i))
      ∙ g.laid.open_at b a (o + i) k l (omega arith) hw)) in
      let maps = each_law (is_mapped mem) (width form) (a + o) (omega arith) (λ i h. let q : a + (o + i) ≡ a + o + i = omega arith in
      subst (λ z. is_mapped mem z ≡ true) q (same_mapped w mem g.same (a + (o + i)) ∙ g.laid.mapped b a (o + i) k l (omega arith))) in
      record {
        mem = set_bytes mem (a + o) (bytes_of form x);
        is = rw e1 (ap (λ t. if not t then Err Unmapped else if not
            (each_from (may_write mem) (width form) (a + o)) then Err ReadOnly else Ok (set_bytes mem (a + o) (bytes_of form x))) maps
            ∙ ap (λ t. if not t then Err ReadOnly else Ok (set_bytes mem (a + o) (bytes_of form x))) opens);
        agrees = cells_law w next (cells_by form v) (bytes_of form x) live mem b a o k l (omega (arith, cells_count form v)) hw
            (cells_by_law w ok live next g.laid form v x m) g;
        homes = home_update b (λ j. set_cells j o (cells_by form v)) (set_cells_mild (cells_by form v) o) w live;
        top_stays = top_update b (λ j. set_cells j o (cells_by form v)) (set_cells_mild (cells_by form v) o) live;
      }

  pub store_law : (form : Form) (at v : Val) (y x : ℕ) → Means w live next at y → Means w live next v x
      → may_store live (width form) at ≡ true → Written w live next (stored_by live form at v) (stored mem form y x)
  store_law form (Ptr b o) v y x ma mv h = found (find (has b) live) refl h
    where
      found : (k : Option Live) → find (has b) live ≡ k → may_write_found k (width form) o ≡ true
          → Written w live next (update b (λ j. set_cells j o (cells_by form v)) live) (stored mem form y x)
      found None e t = cc
      found (Some k) e t =
          let p = and_parts k.writable (may_read k (width form) o) t in
          let q = and_parts (o % width form == 0) (nat_le (o + width form) (length k.cells)) p.1 in
          let r = home_of w live b k e in
          let z : y ≡ wrapped (r.0 + o) = subst (λ z. Shows (option_map (λ a. wrapped (a + o)) z) y) r.1.home_is ma.shows in
          store_at form b r.0 o y k v x r.1 (leb-true (o + width form) (length k.cells) q.1) p.0 z mv
  store_law form Undef v y x ma mv h = cc
  store_law form (Int _) v y x ma mv h = cc
  store_law form (Code _ _) v y x ma mv h = cc
  store_law form (Ext _ _) v y x ma mv h = cc
  store_law form Stop v y x ma mv h = cc
  store_law form (Ha _ _ _) v y x ma mv h = cc

  -- ---- loads

  -- four cells in a row and the four bytes there
  pub join_law : (c d e f : Cell) (x y z t : ℕ) → CellMeans w live next c x → CellMeans w live next d y → CellMeans w live next e z
      → CellMeans w live next f t → Means w live next (joined c d e f) (word x y z t)
  join_law (cells.Byte p) (cells.Byte q) (cells.Byte r) (cells.Byte s) x y z t m1 m2 m3 m4 = int_means w live next _ _ (omega arith)
  join_law (cells.Part u i) (cells.Part v j) (cells.Part p k) (cells.Part q l) x y z t m1 m2 m3 m4 =
      case (i == 0 && j == 1 && k == 2 && l == 3 && same_val u v && same_val u p && same_val u q) refl
    where
      joined_part : (o : Option ℕ) → PartShows o 0 x → PartShows o 1 y → PartShows o 2 z → PartShows o 3 t → Shows o (word x y z t)
      joined_part None a b c d = tt
      joined_part (Some n) a b c d = rw (a.1, b.1, c.1, d.1) (bytes_join n a.0)

      case : (b : Bool) → (i == 0 && j == 1 && k == 2 && l == 3 && same_val u v && same_val u p && same_val u q) ≡ b
          → Means w live next (if b then u else Undef) (word x y z t)
      case true b =
          let b6 = and_parts (i == 0 && j == 1 && k == 2 && l == 3 && same_val u v && same_val u p) (same_val u q) b in
          let b5 = and_parts (i == 0 && j == 1 && k == 2 && l == 3 && same_val u v) (same_val u p) b6.0 in
          let b4 = and_parts (i == 0 && j == 1 && k == 2 && l == 3) (same_val u v) b5.0 in
          let b3 = and_parts (i == 0 && j == 1 && k == 2) (l == 3) b4.0 in
          let b2 = and_parts (i == 0 && j == 1) (k == 2) b3.0 in
          let b1 = and_parts (i == 0) (j == 1) b2.0 in
          let n1 = subst (λ n. PartShows (shown w live u) n x) (eqb-true i 0 b1.0) m1.1 in
          let n2 = subst (λ n. PartShows (shown w live u) n y) (eqb-true j 1 b1.1)
          (subst (λ o. PartShows o j y) (sym (same_val_is w live u v b4.1)) m2.1) in
          let n3 = subst (λ n. PartShows (shown w live u) n z) (eqb-true k 2 b2.1)
          (subst (λ o. PartShows o k z) (sym (same_val_is w live u p b5.1)) m3.1) in
          let n4 = subst (λ n. PartShows (shown w live u) n t) (eqb-true l 3 b3.1)
          (subst (λ o. PartShows o l t) (sym (same_val_is w live u q b6.1)) m4.1) in
          record { named = m1.0; shows = joined_part (shown w live u) n1 n2 n3 n4 }
      case false b = undef_means w live next _
  join_law _ _ _ _ x y z t m1 m2 m3 m4 = undef_means w live next _

  four_law : (c d e f : Cell) (x y z t : ℕ) → CellMeans w live next c x → CellMeans w live next d y → CellMeans w live next e z
      → CellMeans w live next f t → Means w live next (four_bytes c d e f) (word x y z t)
  four_law (cells.Byte p) (cells.Byte q) (cells.Byte r) (cells.Byte s) x y z t m1 m2 m3 m4 = int_means w live next _ _ (omega arith)
  four_law _ _ _ _ x y z t m1 m2 m3 m4 = undef_means w live next _

  half_law : (c d : Cell) (x y : ℕ) → CellMeans w live next c x → CellMeans w live next d y → Means w live next (half_word c d) (half x y)
  half_law (cells.Byte p) (cells.Byte q) x y m1 m2 = int_means w live next _ _ (omega arith)
  half_law _ _ x y m1 m2 = undef_means w live next _

  byte_law : (c : Cell) (x : ℕ) → CellMeans w live next c x → Means w live next (byte_word c) x
  byte_law (cells.Byte p) x m = int_means w live next _ _ m
  byte_law _ x m = undef_means w live next _

  changed_law : (f : ℕ → ℕ) (v : Val) (x : ℕ) → Means w live next v x → Means w live next (changed f v) (f x)
  changed_law f (Int n) x m = int_means w live next _ _ (ap f m.shows)
  changed_law f _ x m = undef_means w live next _

  module _ (b a : ℕ) (k : Live) (l : LiveAt w live b a k) where
    cell_here : (o y : ℕ) → o < length k.cells → y ≡ a + o → CellMeans w live next (cell k o) (byte_of mem y)
    cell_here o y h e = subst (λ z. CellMeans w live next (cell k o) (byte_of mem z)) (sym e) (g.cells.at b a o k l h)

    pub value_law : (form : Form) (o y : ℕ) → o + width form ≤ length k.cells → y ≡ a + o
        → Means w live next (value_by form k o) (value_of mem form y)
    value_law form o y h e = by form h
      where
        hi : a + length k.cells ≤ 0xfffffff0
        hi = g.laid.high b a k l

        by : (form : Form) → o + width form ≤ length k.cells → Means w live next (value_by form k o) (value_of mem form y)
        by Word h = let q = hi in join_law _ _ _ _ _ _ _ _ (cell_here o y (omega arith) e)
            (cell_here (o + 1) _ (omega arith) (omega arith)) (cell_here (o + 2) _ (omega arith) (omega arith))
            (cell_here (o + 3) _ (omega arith) (omega arith))
        by Half h = let q = hi in half_law _ _ _ _ (cell_here o y (omega arith) e) (cell_here (o + 1) _ (omega arith) (omega arith))
        by Byte h = byte_law _ _ (cell_here o y (omega arith) e)
        by SignedHalf h = let q = hi in
            changed_law sext16 _ _ (half_law _ _ _ _ (cell_here o y (omega arith) e) (cell_here (o + 1) _ (omega arith) (omega arith)))
        by ReversedWord h = let q = hi in
            four_law _ _ _ _ _ _ _ _ (cell_here (o + 3) _ (omega arith) (omega arith)) (cell_here (o + 2) _ (omega arith) (omega arith))
            (cell_here (o + 1) _ (omega arith) (omega arith)) (cell_here o y (omega arith) e)
        by ReversedHalf h = let q = hi in half_law _ _ _ _ (cell_here (o + 1) _ (omega arith) (omega arith)) (cell_here o y (omega arith) e)

    pub load_at : (form : Form) (o y : ℕ) → o + width form ≤ length k.cells → y ≡ wrapped (a + o)
        → LoadAgrees w live next (Some (value_by form k o)) (loaded mem form y)
    load_at form o y h e =
        let hi = g.laid.high b a k l in
        let e1 : y ≡ a + o = omega arith in
        let maps = each_law (is_mapped mem) (width form) (a + o) (omega arith) (λ i s. let q : a + (o + i) ≡ a + o + i = omega arith in
        subst (λ z. is_mapped mem z ≡ true) q (same_mapped w mem g.same (a + (o + i)) ∙ g.laid.mapped b a (o + i) k l (omega arith))) in (
          value_of mem form y,
          ap (λ t. if t then Some (value_of mem form y) else None)
              (subst (λ z. each_from (is_mapped mem) (width form) z ≡ true) (sym e1) maps),
          value_law form o y h e1,
        )

  pub load_law : (form : Form) (at : Val) (y : ℕ) → Means w live next at y
      → LoadAgrees w live next (load_by live form at) (loaded mem form y)
  load_law form (Ptr b o) y ma = found (find (has b) live) refl
    where
      found : (k : Option Live) → find (has b) live ≡ k → LoadAgrees w live next (option_and_then (read_by form o) k) (loaded mem form y)
      found None e = tt
      found (Some k) e = case (may_read k (width form) o) refl
        where
          case : (t : Bool) → may_read k (width form) o ≡ t
              → LoadAgrees w live next (if t then Some (value_by form k o) else None) (loaded mem form y)
          case true q =
              let p = and_parts (o % width form == 0) (nat_le (o + width form) (length k.cells)) q in
              let r = home_of w live b k e in
              let z : y ≡ wrapped (r.0 + o) = subst (λ z. Shows (option_map (λ a. wrapped (a + o)) z) y) r.1.home_is ma.shows in
              load_at b r.0 k r.1 form o y (leb-true (o + width form) (length k.cells) p.1) z
          case false q = tt
  load_law form _ y ma = tt
