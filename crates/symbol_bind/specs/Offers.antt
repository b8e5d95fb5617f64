-- What symbols offer for a name.
use Rattle.std.specs.Prelude.{◌≡◌, ℕ, ◌+◌, ◌*◌, ◌<◌, Bool, List, [], length, map, filter, Option, Some, None, option_map, slice_get}
use Rattle.std.specs.Prelude.{slice_index, slice_index_or, if◌then◌else◌, Vec}
use Rattle.std.specs.Global.{Global}
use Rattle.std.specs.Option.{option_map_or}
use Rattle.image_model.specs.Image.{Symbol}
use Rattle.link_model.specs.Sets.{set_of}
use Rattle.link_model.specs.Program.{Declaration, name_of, is_static}
use Rattle.link_model.specs.Candidates.{is_candidate_for}
use Rattle.symbol_index.specs.Index.{Index, no_symbol, in_order}

-- the values of the symbols that serve a key of this name
abbrev pub served : List ℕ → Bool → List Symbol → List ℕ
served name static symbols = map (λ (s : Symbol). s.value) (filter (is_candidate_for name static) symbols)

-- the candidates of a key
abbrev pub offered : List Symbol → Declaration → List ℕ
offered symbols d = set_of (served (name_of d) (is_static d) symbols)

-- those of each key
abbrev pub all_offered : List Symbol → List Declaration → List (List ℕ)
all_offered symbols ks = map (offered symbols) ks

-- ---- sets that are kept once for all keys of a name

-- set j is this one
abbrev pub IsSetAt : List (Vec ℕ Global) → ℕ → List ℕ → Type 0
IsSetAt sets j set = option_map (λ v. v.items) (slice_get sets j) ≡ Some set

-- what is a set of some sets is one of others
abbrev pub Extends : List (Vec ℕ Global) → List (Vec ℕ Global) → Type 0
Extends old new = (j : ℕ) (set : List ℕ) → IsSetAt old j set → IsSetAt new j set

-- where the set's number stands that is offered for the name at a place
abbrev pub slot : ℕ → Bool → ℕ
slot place static = 2 * place + (if static then 1 else 0)

-- each number that is known is that of the set which is offered for the name at its place
abbrev pub AreKnown : Index → List (Option ℕ) → List (Vec ℕ Global) → Type 0
AreKnown x known sets =
    (place : ℕ) (static : Bool) (j : ℕ) → place < length x.places → slice_index_or known (slot place static) None ≡ Some j
    → IsSetAt sets j (set_of (served (slice_index_or (in_order x) place no_symbol).name static x.symbols))

-- each of the first n keys has the number of its candidates
abbrev pub AreOffers : List Symbol → List Declaration → ℕ → List (Vec ℕ Global) → List ℕ → Type 0
AreOffers symbols ks n sets numbers =
    (k : ℕ) (d : Declaration) → k < n → slice_get ks k ≡ Some d → IsSetAt sets (slice_index numbers k) (offered symbols d)

-- the set with a number
abbrev pub set_at : List (Vec ℕ Global) → ℕ → List ℕ
set_at sets j = option_map_or (λ (v : Vec ℕ Global). v.items) (slice_get sets j) []
