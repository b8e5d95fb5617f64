-- The account of all loaded addresses: how many bytes each owner has, and the longest runs of neighbouring addresses of one kind.
use Rattle.std.specs.Prelude.{ℕ, zero, suc, ◌+◌, ◌-◌, ◌^◌, Bool, true, false, ◌&&◌, ◌==◌, nat_lt, List, [], ◌∷◌, ◌++◌, length, map, filter}
use Rattle.std.specs.Prelude.{slice_get, slice_set, slice_index_or, sum_by, if◌then◌else◌, Option, Some, None}
use Rattle.std.specs.Option.{option_map_or}
use Rattle.image_model.specs.Image.{Image}
use Rattle.word_ops.specs.Ranges.{Extent, extent}
use Rattle.layout_model.specs.Layouts.{Layout}
use Rattle.link_model.specs.declared.owner.Owner.{Owner}
use Rattle.link_model.specs.declared.owner.Owner.TheVariants as owners
use Rattle.link_model.specs.Numbers.{externals}
use Rattle.link_model.specs.Candidates.{Inputs}
use Rattle.link_model.specs.Claims.{Claim, claim, claims}
use Rattle.link_model.specs.Kinds.{Kind, Claimed, Foreign, Padding, Stray, kind_at}

-- ---- runs

pub record Run : Type 0 where
  pub range : Extent
  pub kind : Kind

abbrev pub same_kind : Kind → Kind → Bool
same_kind (Claimed i) (Claimed j) = i == j
same_kind Foreign Foreign = true
same_kind Padding Padding = true
same_kind Stray Stray = true
same_kind _ _ = false

abbrev pub last_run : List Run → Run
last_run runs = slice_index_or runs (length runs - 1) (record { range = extent 0 0; kind = Stray })

-- the last run ends at the address and has its kind
abbrev pub goes_on : List Run → ℕ → Kind → Bool
goes_on runs a kind = nat_lt 0 (length runs) && ((last_run runs).range.hi == a) && same_kind (last_run runs).kind kind

-- the runs with one more address
unfoldable pub with_address : List Run → ℕ → Kind → List Run
with_address runs a kind =
    if goes_on runs a kind then slice_set runs (length runs - 1) (record { range = extent (last_run runs).range.lo (a + 1); kind = kind })
    else runs ++ record { range = extent a (a + 1); kind = kind } ∷ []

-- ---- the loaded addresses below n

pub record Tally : Type 0 where
  pub runs : List Run
  pub padding : ℕ
  pub foreign : ℕ
  pub loaded : ℕ

abbrev pub one_if : Bool → ℕ
one_if b = if b then 1 else 0

-- with an address, where it is loaded
unfoldable pub tally_with : Tally → ℕ → Option Kind → Tally
tally_with t a None = t
tally_with t a (Some kind) = record {
  runs = with_address t.runs a kind;
  padding = t.padding + one_if (same_kind kind Padding);
  foreign = t.foreign + one_if (same_kind kind Foreign);
  loaded = t.loaded + 1;
}

unfoldable pub tally_below : Image → Layout → List Claim → ℕ → Tally
tally_below v l cs zero = record { runs = []; padding = 0; foreign = 0; loaded = 0 }
tally_below v l cs (suc a) = tally_with (tally_below v l cs a) a (kind_at v l cs a)

-- ---- claims by owner

abbrev pub is_function_owner : Owner → Bool
is_function_owner (owners.Function unit name) = true
is_function_owner _ = false

abbrev pub is_table_owner : Owner → Bool
is_table_owner (owners.Table unit name offset) = true
is_table_owner _ = false

abbrev pub is_variable_owner : Owner → Bool
is_variable_owner (owners.Variable unit name) = true
is_variable_owner _ = false

abbrev pub claims_of : (Owner → Bool) → List Claim → List Claim
claims_of is_owner cs = filter (λ (c : Claim). is_owner c.owner) cs

abbrev pub count_of : (Owner → Bool) → List Claim → ℕ
count_of is_owner cs = length (claims_of is_owner cs)

abbrev pub bytes_of : (Owner → Bool) → List Claim → ℕ
bytes_of is_owner cs = sum_by (λ (c : Claim). c.range.hi - c.range.lo) (claims_of is_owner cs)

-- ---- the account

-- the counts have those of size 0 too. The spans are the runs by address, each with its owner
pub record Account : Type 0 where
  pub functions : ℕ
  pub function_bytes : ℕ
  pub tables : ℕ
  pub table_bytes : ℕ
  pub variables : ℕ
  pub variable_bytes : ℕ
  pub externals : ℕ
  pub padding : ℕ
  pub foreign : ℕ
  pub loaded : ℕ
  pub spans : List Claim

abbrev pub kind_owner : List Claim → Kind → Owner
kind_owner cs (Claimed j) = option_map_or (λ (c : Claim). c.owner) (slice_get cs j) owners.Padding
kind_owner cs Foreign = owners.Foreign
kind_owner cs _ = owners.Padding

abbrev pub span_of : List Claim → Run → Claim
span_of cs run = claim run.range (kind_owner cs run.kind)

-- of claims and a tally, with so many external keys
unfoldable pub account_of : List Claim → ℕ → Tally → Account
account_of cs externals t = record {
  functions = count_of is_function_owner cs;
  function_bytes = bytes_of is_function_owner cs;
  tables = count_of is_table_owner cs;
  table_bytes = bytes_of is_table_owner cs;
  variables = count_of is_variable_owner cs;
  variable_bytes = bytes_of is_variable_owner cs;
  externals = externals;
  padding = t.padding;
  foreign = t.foreign;
  loaded = t.loaded;
  spans = map (span_of cs) t.runs;
}

-- of all loaded addresses
unfoldable pub account : Image → Layout → List Claim → ℕ → Account
account v l cs externals = account_of cs externals (tally_below v l cs (2 ^ 32))

-- of the program's claims, where its keys have the addresses bs
abbrev pub program_account : Inputs → List ℕ → Account
program_account g bs = account g.image g.layout (claims g bs) (length (externals g.program.units))
