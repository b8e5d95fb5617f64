-- Registers that agree go on to agree.
use Rattle.std.proofs.Common.{◌≡◌, ℕ, zero, suc, ◌+◌, Bool, true, false, not, ◌&&◌, List, [], ◌∷◌, length, refl, sym, ap, ◌∙◌, subst}
use Rattle.std.proofs.Common.{arith, if◌then◌else◌, length-set, get_or-set_other}
use Rattle.std.specs.Prelude.{◌==◌, ◌||◌, slice_index_or}
use Rattle.std.specs.List.{list_all}
use Rattle.std.proofs.lemmas.Bool.{and_parts}
use Rattle.effect_model.specs.declared.Place.{Place}
use Rattle.effect_model.specs.declared.Place.TheVariants.{Gpr, Bit, Lr, Ctr, Ca, So, Unused}
use Rattle.effect_model.specs.declared.Operand.{Operand}
use Rattle.effect_model.specs.declared.Operand.TheVariants.{At, Number, Lo, Ha, Sda, Undefined}
use Rattle.effect_model.specs.declared.Op.{Op}
use Rattle.effect_model.specs.declared.Effect.{Effect}
use Rattle.effect_model.specs.declared.Effects.{Effects}
use Rattle.effect_model.specs.declared.Effects.TheVariants.{Nothing, One, Two, Three}
use Rattle.effect_model.specs.Meaning.{results}
use Rattle.effect_model.specs.Files.{File, get, put, word_read, flat_effect, flat_all}
use Rattle.asm_shapes.specs.Shapes.{is_reserved}
use Rattle.asm_mem.specs.declared.value.Val.{Val}
use Rattle.asm_mem.specs.declared.value.Val.TheVariants.{Undef}
use Rattle.asm_mem.specs.Blocks.{Live}
use Rattle.asm_values.specs.Operands.{value_results}
use Rattle.asm_values.specs.Files.{value_read, asm_effect, asm_all}
use Rattle.effect_model.specs.Calls.{put_each}
use Rattle.machine_model.specs.Worlds.{World}
use Rattle.machine_model.specs.Fits.{Fits}
use Rattle.machine_model.specs.Relation.{Means, Both, Laid, FilesAgree}
use Rattle.value_laws.specs.Laws.{OperandMeans, ResultsMean}
use Rattle.file_laws.specs.Laws.{reserved}
use Rattle.value_laws.proofs.Both.{both_get, both_set}
use Rattle.value_laws.proofs.ValueLaws.{undef_means, int_means}
use Rattle.value_laws.proofs.OpLaws.{op_law}

-- none of the two bases
abbrev pub Free : Place → Type 0
Free (Gpr n) = (2 ≡ n → ⊥) × (13 ≡ n → ⊥)
Free _ = Unit {0}

-- not the stack pointer
abbrev pub Spare : Place → Type 0
Spare (Gpr n) = 1 ≡ n → ⊥
Spare _ = Unit {0}

not_reserved : (n m : ℕ) → is_reserved n ≡ false → is_reserved m ≡ true → m ≡ n → ⊥
not_reserved n m h k e = let q : is_reserved m ≡ false = subst (λ z. is_reserved z ≡ false) (sym e) h in cc

pub free_of : (p : Place) → reserved p ≡ false → Free p
free_of (Gpr n) h = (not_reserved n 2 h refl, not_reserved n 13 h refl)
free_of (Bit n) h = tt
free_of Lr h = tt
free_of Ctr h = tt
free_of Ca h = tt
free_of So h = tt
free_of Unused h = tt

pub spare_of : (p : Place) → reserved p ≡ false → Spare p
spare_of (Gpr n) h = not_reserved n 1 h refl
spare_of (Bit n) h = tt
spare_of Lr h = tt
spare_of Ctr h = tt
spare_of Ca h = tt
spare_of So h = tt
spare_of Unused h = tt

pub put_spares : (f : File Val) (p : Place) (v : Val) → Spare p → get Undef (put f p v) (Gpr 1) ≡ get Undef f (Gpr 1)
put_spares f (Gpr n) v h = get_or-set_other f.gprs n 1 v Undef h
put_spares f (Bit n) v h = refl
put_spares f Lr v h = refl
put_spares f Ctr v h = refl
put_spares f Ca v h = refl
put_spares f So v h = refl
put_spares f Unused v h = refl

abbrev pub AllReserved : List Place → Type 0
AllReserved [] = Unit {0}
AllReserved (p ∷ ps) = (reserved p ≡ false) × AllReserved ps

pub put_each_spares : (to : Place → Val) (ps : List Place) (f : File Val) → AllReserved ps
    → get Undef (put_each to ps f) (Gpr 1) ≡ get Undef f (Gpr 1)
put_each_spares to [] f h = refl
put_each_spares to (p ∷ ps) f h = put_each_spares to ps (put f p (to p)) h.1 ∙ put_spares f p (to p) (spare_of p h.0)

-- ---- effects without parts of addresses

abbrev pub concrete : Operand → Bool
concrete (At p) = true
concrete (Number n) = true
concrete _ = false

pub record Fine (e : Effect) : Type 0 where
  pub x : concrete e.x ≡ true
  pub y : concrete e.y ≡ true
  pub z : concrete e.z ≡ true
  pub first : reserved e.first ≡ false
  pub second : reserved e.second ≡ false
  pub third : reserved e.third ≡ false

abbrev pub AllFine : Effects → Type 0
AllFine Nothing = Unit {0}
AllFine (One e) = Fine e
AllFine (Two e d) = Fine e × Fine d
AllFine (Three e d c) = Fine e × (Fine d × Fine c)

module _ (w : World) (live : List Live) (next : ℕ) where
  pub get_law : (f : File Val) (g : File ℕ) → FilesAgree w live next f g → (p : Place) → Means w live next (get Undef f p) (get 0 g p)
  get_law f g h (Gpr n) = both_get (Means w live next) f.gprs g.gprs Undef 0 (undef_means w live next 0) h.gprs n
  get_law f g h (Bit n) = both_get (Means w live next) f.bits g.bits Undef 0 (undef_means w live next 0) h.bits n
  get_law f g h Lr = h.lr
  get_law f g h Ctr = h.ctr
  get_law f g h Ca = h.ca
  get_law f g h So = h.so
  get_law f g h Unused = undef_means w live next 0

  -- the special registers are put at once
  special_law : (f : File Val) (g : File ℕ) → FilesAgree w live next f g → (lr ctr ca so : Val) (x y z u : ℕ)
      → Means w live next lr x → Means w live next ctr y → Means w live next ca z → Means w live next so u
      → FilesAgree w live next (record f { lr = lr; ctr = ctr; ca = ca; so = so }) (record g { lr = x; ctr = y; ca = z; so = u })
  special_law f g h lr ctr ca so x y z u a b c d =
      record {
        gprs = h.gprs;
        wide = h.wide;
        bits = h.bits;
        bits_wide = h.bits_wide;
        lr = a;
        ctr = b;
        ca = c;
        so = d;
        bases = h.bases;
      }

  pub put_law : (f : File Val) (g : File ℕ) → FilesAgree w live next f g → (p : Place) (v : Val) (x : ℕ) → Free p → Means w live next v x
      → FilesAgree w live next (put f p v) (put g p x)
  put_law f g h (Gpr n) v x e m =
      record {
        gprs = both_set (Means w live next) f.gprs g.gprs v x m h.gprs n;
        wide = length-set g.gprs n x ∙ h.wide;
        bits = h.bits;
        bits_wide = h.bits_wide;
        lr = h.lr;
        ctr = h.ctr;
        ca = h.ca;
        so = h.so;
        bases =
            (get_or-set_other g.gprs n 2 x 0 e.0 ∙ h.bases.0, get_or-set_other g.gprs n 13 x 0 e.1 ∙ h.bases.1);
      }
  put_law f g h (Bit n) v x e m =
      record {
        gprs = h.gprs;
        wide = h.wide;
        bits = both_set (Means w live next) f.bits g.bits v x m h.bits n;
        bits_wide = length-set g.bits n x ∙ h.bits_wide;
        lr = h.lr;
        ctr = h.ctr;
        ca = h.ca;
        so = h.so;
        bases = h.bases;
      }
  put_law f g h Lr v x e m = special_law f g h v f.ctr f.ca f.so x g.ctr g.ca g.so m h.ctr h.ca h.so
  put_law f g h Ctr v x e m = special_law f g h f.lr v f.ca f.so g.lr x g.ca g.so h.lr m h.ca h.so
  put_law f g h Ca v x e m = special_law f g h f.lr f.ctr v f.so g.lr g.ctr x g.so h.lr h.ctr m h.so
  put_law f g h So v x e m = special_law f g h f.lr f.ctr f.ca v g.lr g.ctr g.ca x h.lr h.ctr h.ca m
  put_law f g h Unused v x e m = h

  pub put_each_law : (to : Place → Val) (from : Place → ℕ) (ps : List Place) → AllReserved ps
      → ((p : Place) → Means w live next (to p) (from p)) → (f : File Val) (g : File ℕ) → FilesAgree w live next f g
      → FilesAgree w live next (put_each to ps f) (put_each from ps g)
  put_each_law to from [] e m f g h = h
  put_each_law to from (p ∷ ps) e m f g h =
      put_each_law to from ps e.1 m (put f p (to p)) (put g p (from p)) (put_law f g h p (to p) (from p) (free_of p e.0) (m p))

  pub read_law : (f : File Val) (g : File ℕ) → FilesAgree w live next f g → (o : Operand) → concrete o ≡ true
      → OperandMeans w live next (value_read f o) (word_read g o)
  read_law f g h (At p) c = get_law f g h p
  read_law f g h (Number n) c = int_means w live next n n refl
  read_law f g h (Lo _ _) c = cc
  read_law f g h (Ha _ _) c = cc
  read_law f g h (Sda _ _) c = cc
  read_law f g h Undefined c = cc

  -- results that stand for words are put
  pub outcome_law : (f : File Val) (g : File ℕ) → FilesAgree w live next f g → (op : Op) (x y z u v t : Operand) (p q r : Place)
      → reserved p ≡ false → reserved q ≡ false → reserved r ≡ false
      → ResultsMean w live next (value_results w.program.kinds live op (value_read f x) (value_read f y) (value_read f z))
      (results op (word_read g u) (word_read g v) (word_read g t))
      → FilesAgree w live next (asm_effect w.program.kinds live
      (record { op = op; x = x; y = y; z = z; first = p; second = q; third = r }) f)
      (flat_effect (record { op = op; x = u; y = v; z = t; first = p; second = q; third = r }) g)
  unfolding asm_effect flat_effect
  outcome_law f g h op x y z u v t p q r e1 e2 e3 m =
      put_law _ _ (put_law _ _ (put_law f g h p _ _ (free_of p e1) m.0) q _ _ (free_of q e2) m.1.0) r _ _ (free_of r e3) m.1.1

  module _ (ok : Fits w) (laid : Laid w live next) where
    pub effect_law : (e : Effect) → Fine e → (f : File Val) (g : File ℕ) → FilesAgree w live next f g
        → FilesAgree w live next (asm_effect w.program.kinds live e f) (flat_effect e g)
    effect_law e c f g h = outcome_law f g h e.op e.x e.y e.z e.x e.y e.z e.first e.second e.third c.first c.second c.third
        (op_law w ok live next laid e.op _ _ _ _ _ _ (read_law f g h e.x c.x) (read_law f g h e.y c.y) (read_law f g h e.z c.z))

    pub effects_law : (es : Effects) → AllFine es → (f : File Val) (g : File ℕ) → FilesAgree w live next f g
        → FilesAgree w live next (asm_all w.program.kinds live es f) (flat_all es g)
    effects_law Nothing c f g h = h
    effects_law (One e) c f g h = effect_law e c f g h
    effects_law (Two e d) c f g h = effect_law d c.1 _ _ (effect_law e c.0 f g h)
    effects_law (Three e d b) c f g h = effect_law b c.1.1 _ _ (effect_law d c.1.0 _ _ (effect_law e c.0 f g h))

pub outcome_spares : (w : World) (live : List Live) (e : Effect) (f : File Val) → reserved e.first ≡ false → reserved e.second ≡ false
    → reserved e.third ≡ false → get Undef (asm_effect w.program.kinds live e f) (Gpr 1) ≡ get Undef f (Gpr 1)
unfolding asm_effect
outcome_spares w live e f e1 e2 e3 =
    put_spares _ e.third _ (spare_of e.third e3) ∙ put_spares _ e.second _ (spare_of e.second e2)
    ∙ put_spares f e.first _ (spare_of e.first e1)

pub effect_spares : (w : World) (live : List Live) (e : Effect) (f : File Val) → Fine e
    → get Undef (asm_effect w.program.kinds live e f) (Gpr 1) ≡ get Undef f (Gpr 1)
effect_spares w live e f c = outcome_spares w live e f c.first c.second c.third

pub effects_spare : (w : World) (live : List Live) (es : Effects) (f : File Val) → AllFine es
    → get Undef (asm_all w.program.kinds live es f) (Gpr 1) ≡ get Undef f (Gpr 1)
effects_spare w live Nothing f c = refl
effects_spare w live (One e) f c = effect_spares w live e f c
effects_spare w live (Two e d) f c = effect_spares w live d _ c.1 ∙ effect_spares w live e f c.0
effects_spare w live (Three e d b) f c = effect_spares w live b _ c.1.1 ∙ effect_spares w live d _ c.1.0 ∙ effect_spares w live e f c.0
