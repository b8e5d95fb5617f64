-- Worked rows of the kinds of addresses and of the account, computed.
use Rattle.std.proofs.Common.{◌≡◌, ℕ, List, [], ◌∷◌, refl}
use Rattle.std.specs.Prelude.{codes, true, false, Option, Some, None}
use Rattle.word_ops.specs.Ranges.{extent}
use Rattle.image_model.specs.Image.{Image, Segment}
use Rattle.layout_model.specs.declared.kind.AreaKind.TheVariants as areas
use Rattle.layout_model.specs.Layouts.{Layout}
use Rattle.asm_syntax.specs.declared.unit.Init.TheVariants.{Int32, Space}
use Rattle.asm_syntax.specs.declared.rule.Rule.TheVariants as rules
use Rattle.ordered_tests.specs.Checks.{check}
use Rattle.code_model.specs.WordChecks.{spot}
use Rattle.link_model.specs.declared.owner.Owner.TheVariants as owners
use Rattle.link_model.specs.Candidates.{Inputs}
use Rattle.link_model.specs.Binding.{addresses}
use Rattle.link_model.specs.Claims.{Claim, claim, claims}
use Rattle.link_model.specs.Kinds.{Kind, Claimed, Foreign, Padding, Stray, kind_at, is_free_nop}
use Rattle.link_model.specs.Account.{account_of, tally_below, tally_with, with_address}
use Rattle.link_model.specs.Passes.{nowhere, stray_check}
use Rattle.link_model.proofs.RowParts.{answer, none, segment, text, global, image, area, layout, variable, main_unit, inputs, seven}

-- ---- kinds: nops behind code, zero fill in a variable and behind the area; a nop among constants; a nop of which a byte is claimed

abbrev kind_in : Inputs → ℕ → Option Kind
kind_in g a = kind_at g.image g.layout (claims g (addresses g)) a

abbrev filled : ℕ → Segment
filled memsz = record { vaddr = 0x10018000; held = 0 ∷ 0 ∷ 0 ∷ 5 ∷ []; memsz = memsz; flags = 6 }

abbrev zero_fill : ℕ → Inputs
zero_fill memsz = inputs
    (image (text (0x38600007 ∷ 0x4e800020 ∷ 0x60000000 ∷ 0x60000000 ∷ []) ∷ filled memsz ∷ [])
    (global (codes "x") 0x10018000 ∷ global (codes "y") 0x10018004 ∷ []))
    (layout (area 0x10018000 0x1001800c areas.Writable ∷ []) (extent 0x1001800e 0x10019000 ∷ []) [])
    (main_unit seven (variable (codes "x") true (Int32 5 ∷ []) ∷ variable (codes "y") true (Space 8 ∷ []) ∷ []) [])

abbrev constant_nop : Inputs
constant_nop = inputs
    (image (text (0x38600007 ∷ 0x4e800020 ∷ []) ∷ segment 0x10018000 (0x60 ∷ 0 ∷ 0 ∷ 0 ∷ []) 4 ∷ []) [])
    (layout (area 0x10018000 0x10019000 areas.Fixed ∷ []) [] []) (main_unit seven [] [])

kinds : (answer (zero_fill 12) ≡ none)
    × (answer (zero_fill 16) ≡ none)
    × (kind_in (zero_fill 16) 0x10010004 ≡ Some (Claimed 0))
    × (kind_in (zero_fill 16) 0x10010008 ≡ Some Padding)
    × (kind_in (zero_fill 16) 0x1001000d ≡ Some Padding)
    × (kind_in (zero_fill 16) 0x1001800b ≡ Some (Claimed 2))
    × (kind_in (zero_fill 16) 0x1001800c ≡ Some Stray)
    × (kind_in (zero_fill 16) 0x1001800e ≡ Some Foreign)
    × (kind_in (zero_fill 16) 0x10018010 ≡ None)
    × (kind_in constant_nop 0x10018000 ≡ Some Stray)
    × (kind_in constant_nop 0x10018001 ≡ Some Padding)
unfolding answer kind_at is_free_nop
kinds = (refl, refl, refl, refl, refl, refl, refl, refl, refl, refl, refl)

strays : (stray_check (zero_fill 16).image (zero_fill 16).layout (claims (zero_fill 16) (addresses (zero_fill 16))) 0x1001800c
    ≡ check false (nowhere (spot rules.Stray 0x1001800c 0 0 0)))
    × (stray_check constant_nop.image constant_nop.layout (claims constant_nop (addresses constant_nop)) 0x10018000
    ≡ check false (nowhere (spot rules.Stray 0x10018000 0 0 0x60)))
unfolding answer kind_at is_free_nop
strays = (refl, refl)

-- ---- the account of a small image: a function, a nop, a variable, zero fill, a variable of size 0, and a foreign range

abbrev small_image : Image
small_image = record {
  entry = 16;
  segments = record { vaddr = 16; held = 0x38 ∷ 0x60 ∷ 0 ∷ 7 ∷ 0x60 ∷ 0 ∷ 0 ∷ 0 ∷ 5 ∷ []; memsz = 14; flags = 5 } ∷ [];
  symbols = [];
}

abbrev small_layout : Layout
small_layout = record {
  entry = codes "main";
  stop = 0x10000000;
  stack = extent 0x20000000 0x20010000;
  r13 = 0;
  r2 = 0;
  areas = area 16 24 areas.Code ∷ area 24 28 areas.Writable ∷ [];
  foreign = extent 28 32 ∷ [];
  pins = [];
}

abbrev main_claim : Claim
main_claim = claim (extent 16 20) (owners.Function (codes "a.c") (codes "main"))

abbrev x_claim : Claim
x_claim = claim (extent 24 25) (owners.Variable (codes "a.c") (codes "x"))

abbrev small_claims : List Claim
small_claims = main_claim ∷ x_claim ∷ claim (extent 26 26) (owners.Variable (codes "a.c") (codes "y")) ∷ []

small_account : account_of small_claims 1 (tally_below small_image small_layout small_claims 64) ≡ record {
  functions = 1;
  function_bytes = 4;
  tables = 0;
  table_bytes = 0;
  variables = 2;
  variable_bytes = 1;
  externals = 1;
  padding = 7;
  foreign = 2;
  loaded = 14;
  spans = main_claim ∷ claim (extent 20 24) owners.Padding ∷ x_claim ∷ claim (extent 25 28) owners.Padding
      ∷ claim (extent 28 30) owners.Foreign ∷ [];
}
unfolding account_of tally_below with_address tally_with kind_at is_free_nop
small_account = refl
