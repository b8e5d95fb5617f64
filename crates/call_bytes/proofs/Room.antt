-- Eight buffers have room for all their bytes.
use Rattle.std.proofs.Common.{◌≡◌, ℕ, ◌*◌, ◌<◌, ◌≤◌, true, List, [], ◌∷◌, length, arith}
use Rattle.std.specs.Prelude.{nat_le}
use Rattle.std.proofs.lemmas.Bool.{and_parts}
use Rattle.std.proofs.lemmas.Bool.Decides.{nat_tests}
use Rattle.limits.specs.declared.TheConstants.{MOST_BUFFERS, MOST_BUFFER_BYTES, MOST_CALL_BYTES}
use Rattle.call_bytes.specs.CallLists.{bytes_in, has_room}

bytes_below : (lists : List (List ℕ)) → has_room lists ≡ true → bytes_in lists < length lists * 65536
bytes_below [] h = absurd (cc)
bytes_below (list ∷ []) h = let last : length list < 65536 = grind (arith, nat_tests) in omega (arith, last)
bytes_below (list ∷ next ∷ lists) h =
    let both = and_parts (nat_le (length list) MOST_BUFFER_BYTES) (has_room (next ∷ lists)) h in
    let this : length list ≤ 65536 = let t = both.0 in grind (arith, nat_tests) in
    omega (arith, this, bytes_below (next ∷ lists) both.1)

-- so a byte more is kept
pub room_left : (lists : List (List ℕ)) → length lists ≤ MOST_BUFFERS → has_room lists ≡ true → bytes_in lists < MOST_CALL_BYTES
room_left lists few h = omega (arith, few, bytes_below lists h)

pub some_list : (lists : List (List ℕ)) → has_room lists ≡ true → 0 < length lists
some_list [] h = absurd (cc)
some_list (list ∷ lists) h = omega arith
