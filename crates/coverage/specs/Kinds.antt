-- The kind of the addresses from one on up to an end.
use Rattle.std.specs.Prelude.{◌≡◌, ℕ, ◌+◌, ◌-◌, ◌<◌, ◌≤◌, ◌^◌, Bool, false, ◌==◌, List, Some}
use Rattle.std.specs.Option.{option_map_or}
use Rattle.isa_model.specs.Instructions.{nop_word}
use Rattle.image_model.specs.Image.{Image, Segment}
use Rattle.image_model.specs.Loaded.{segment_byte, word_at}
use Rattle.layout_model.specs.Layouts.{Layout}
use Rattle.link_model.specs.Claims.{Claim}
use Rattle.link_model.specs.Kinds as model
use Rattle.coverage.specs.declared.stretches.Here.{Here}
use Rattle.coverage.specs.declared.kinds.Kind.{Kind}
use Rattle.coverage.specs.declared.kinds.Kind.TheVariants as kinds
use Rattle.coverage.specs.declared.kinds.Stretch.{Stretch}

abbrev pub kind_seen : Kind → model.Kind
kind_seen (kinds.Claimed j) = model.Claimed j
kind_seen kinds.Foreign = model.Foreign
kind_seen kinds.Padding = model.Padding
kind_seen kinds.Stray = model.Stray

-- the bytes of a segment at the addresses from a on that are below end
abbrev pub AreZero : Segment → ℕ → ℕ → Type 0
AreZero s a end = (b : ℕ) → a ≤ b → b < end → segment_byte s (b - s.vaddr) ≡ 0

-- the word at an address is a nop
abbrev pub is_nop_at : Image → ℕ → Bool
is_nop_at v a = option_map_or (λ w. w == nop_word) (word_at v a) false

-- an end behind an address and in its segment, up to which what is known holds
pub record EndsWithin (a end : ℕ) (s : Segment) (h : Here) : Type 0 where
  pub some : a < end
  pub small : end ≤ 2 ^ 32
  pub segment : end ≤ s.vaddr + s.memsz
  pub claim : end ≤ h.claim.end
  pub foreign : end ≤ h.foreign.end
  pub area : end ≤ h.area.end

pub record IsStretch (v : Image) (l : Layout) (cs : List Claim) (a : ℕ) (s : Stretch) : Type 0 where
  pub some : a < s.end
  pub within : s.end ≤ 2 ^ 32
  pub kinds : (b : ℕ) → a ≤ b → b < s.end → model.kind_at v l cs b ≡ Some (kind_seen s.kind)
