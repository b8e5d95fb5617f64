-- Files that are all held within the limits: what was read is what is held, and no file decides.
use Rattle.std.proofs.Common.{◌≡◌, ℕ, zero, suc, ◌+◌, ◌<◌, ◌≤◌, List, [], ◌∷◌, length, take, Some, None, refl, arith, ap, sym, subst}
use Rattle.std.proofs.Common.{inl, inr}
use Rattle.std.specs.Prelude.{slice_get, ◌⊎◌}
use Rattle.std.proofs.lemmas.Bool.{cases_order}
use Rattle.limits.specs.declared.TheConstants.{MOST_DUMPS_BYTES}
use Rattle.outside.specs.Faults.{Rose}
use Rattle.outside.specs.Store.{Files}
use Rattle.commands.specs.Words.{word_at}
use Rattle.commands.specs.Files.{dump_bytes, dumps_sum, limit_of}
use Rattle.commands.specs.Reads.{IsRead, EachRead, AreRead}
use Rattle.commands.specs.declared.file.CommandFile.{CommandFile}
use Rattle.report_text.specs.declared.verdict.Verdict.{Verdict}
use Rattle.report_text.specs.declared.verdict.Verdict.TheVariants.{Usage, Unread, TooLong, PastTotal, Refused, No, Yes, Done, Differs}
use Rattle.command_verdicts.specs.Stops.{Stopped}
use Rattle.report_cmd.proofs.Values.{some_same}

read_same : (files : Files) (words : List (List ℕ)) (f : CommandFile) (x y : List ℕ) → IsRead (Some files) words f x
    → IsRead (Some files) words f y → x ≡ y
read_same files words f x y p q = some_same x y (files (word_at words f.place)) p.0 q.0

pub contents_same : (files : Files) (words : List (List ℕ)) (fs : List CommandFile) (xs ys : List (List ℕ))
    → EachRead (Some files) words fs xs → EachRead (Some files) words fs ys → xs ≡ ys
contents_same files words [] [] [] p q = refl
contents_same files words [] [] (y ∷ ys) p q = absurd q
contents_same files words [] (x ∷ xs) ys p q = absurd p
contents_same files words (f ∷ fs) [] ys p q = absurd p
contents_same files words (f ∷ fs) (x ∷ xs) [] p q = absurd q
contents_same files words (f ∷ fs) (x ∷ xs) (y ∷ ys) p q =
    let e : x ≡ y = read_same files words f x y p.0 q.0 in
    let rest : xs ≡ ys = contents_same files words fs xs ys p.1 q.1 in
    cc

pub read_at : (files : Files) (words : List (List ℕ)) (fs : List CommandFile) (xs : List (List ℕ)) (i : ℕ) (f : CommandFile)
    → EachRead (Some files) words fs xs → slice_get fs i ≡ Some f → (bytes : List ℕ) × IsRead (Some files) words f bytes
read_at files words [] xs i f p h = absurd (let k : None ≡ Some f = h in cc)
read_at files words (g ∷ fs) [] i f p h = absurd p
read_at files words (g ∷ fs) (x ∷ xs) zero f p h =
    let e : g ≡ f = let k : Some g ≡ Some f = h in cc in (x, subst (λ k. IsRead (Some files) words k x) e p.0)
read_at files words (g ∷ fs) (x ∷ xs) (suc i) f p h = read_at files words fs xs i f p.1 h

-- the dumps up to file i and that file are no more than all dumps
pub sum_up_to : (files : Files) (words : List (List ℕ)) (fs : List CommandFile) (xs : List (List ℕ)) (i : ℕ) (f : CommandFile)
    (before : List (List ℕ)) (bytes : List ℕ) → EachRead (Some files) words fs xs → slice_get fs i ≡ Some f
    → EachRead (Some files) words (take i fs) before → IsRead (Some files) words f bytes
    → dumps_sum (take i fs) before + dump_bytes f.kind (length bytes) ≤ dumps_sum fs xs
sum_up_to files words [] xs i f before bytes p h q r = absurd (let k : None ≡ Some f = h in cc)
sum_up_to files words (g ∷ fs) [] i f before bytes p h q r = absurd p
sum_up_to files words (g ∷ fs) (x ∷ xs) zero f before bytes p h q r =
    let e : g ≡ f = let k : Some g ≡ Some f = h in cc in
    let s : x ≡ bytes = read_same files words f x bytes (subst (λ k. IsRead (Some files) words k x) e p.0) r in
    let d : dump_bytes g.kind (length x) ≡ dump_bytes f.kind (length bytes) = cc in
    omega arith
sum_up_to files words (g ∷ fs) (x ∷ xs) (suc i) f [] bytes p h q r = absurd q
sum_up_to files words (g ∷ fs) (x ∷ xs) (suc i) f (y ∷ ys) bytes p h q r =
    let s : x ≡ y = read_same files words g x y p.0 q.0 in
    let d : dump_bytes g.kind (length x) ≡ dump_bytes g.kind (length y) = ap (λ z. dump_bytes g.kind (length z)) s in
    let rest = sum_up_to files words fs xs i f ys bytes p.1 h q.1 r in
    omega arith

-- ---- the first files of a list

pub get_of_take : {T : Type 0} (xs : List T) (i n : ℕ) (x : T) → i < n → slice_get xs i ≡ Some x → slice_get (take n xs) i ≡ Some x
get_of_take [] i n x l h = absurd (let k : None ≡ Some x = h in cc)
get_of_take (y ∷ xs) i zero x l h = absurd (omega arith)
get_of_take (y ∷ xs) zero (suc n) x l h = h
get_of_take (y ∷ xs) (suc i) (suc n) x l h = get_of_take xs i n x (omega arith) h

pub take_of_take : {T : Type 0} (xs : List T) (i n : ℕ) → i < n → take i (take n xs) ≡ take i xs
take_of_take [] i zero l = absurd (omega arith)
take_of_take [] zero (suc n) l = refl
take_of_take [] (suc i) (suc n) l = refl
take_of_take (y ∷ xs) i zero l = absurd (omega arith)
take_of_take (y ∷ xs) zero (suc n) l = refl
take_of_take (y ∷ xs) (suc i) (suc n) l = ap (λ ys. y ∷ ys) (take_of_take xs i n (omega arith))

-- ---- no file decides

module _ (files : Files) (words : List (List ℕ)) (fs : List CommandFile) (xs : List (List ℕ))
    (read : AreRead (Some files) words fs xs) where
  pub lacks_none : (f : CommandFile) (i : ℕ) → slice_get fs i ≡ Some f → files (word_at words f.place) ≡ None → ⊥
  lacks_none f i here absent =
      let held = read_at files words fs xs i f read.each here in
      let k : files (word_at words f.place) ≡ Some held.0 = held.1.0 in
      cc

  not_too_long : (f : CommandFile) (i : ℕ) (bytes : List ℕ) → slice_get fs i ≡ Some f → files (word_at words f.place) ≡ Some bytes
      → limit_of f.kind < length bytes → ⊥
  not_too_long f i bytes here at long =
      let held = read_at files words fs xs i f read.each here in
      let e : held.0 ≡ bytes = some_same held.0 bytes (files (word_at words f.place)) held.1.0 at in
      let short : length bytes ≤ limit_of f.kind = subst (λ z. length z ≤ limit_of f.kind) e held.1.1 in
      omega arith

  not_past : (f : CommandFile) (i : ℕ) (before : List (List ℕ)) (bytes : List ℕ) → slice_get fs i ≡ Some f
      → EachRead (Some files) words (take i fs) before → IsRead (Some files) words f bytes
      → MOST_DUMPS_BYTES < dumps_sum (take i fs) before + dump_bytes f.kind (length bytes) → ⊥
  not_past f i before bytes here up one past =
      apart (dumps_sum (take i fs) before + dump_bytes f.kind (length bytes)) (dumps_sum fs xs) MOST_DUMPS_BYTES
      (sum_up_to files words fs xs i f before bytes read.each here up one) read.dumps past where
        apart : (a b c : ℕ) → a ≤ b → b ≤ c → c < a → ⊥
        apart a b c p q r = omega arith

  pub never_stops : (faults after : ℕ) (blamed : List ℕ) (v : Verdict) → ¬ Rose faults after
      → Stopped (record { holds = Some files; faults = faults; faults_after = after; blamed = blamed }) words fs v → ⊥
  never_stops faults after blamed Usage quiet h = h
  never_stops faults after blamed (Unread place) quiet h =
      elim h.3 [ inl c ↦ quiet c.0 | inr c ↦ lacks_none h.0 h.2.before h.2.here c ]
  never_stops faults after blamed (TooLong place limit) quiet h = not_too_long h.0 h.3.before h.4.0 h.3.here h.4.1 h.4.2
  never_stops faults after blamed (PastTotal place) quiet h =
      not_past h.0 h.2.before h.2.contents h.3.0 h.2.here h.2.read.each h.3.1 h.3.2
  never_stops faults after blamed (Refused place r) quiet h = h
  never_stops faults after blamed (No f) quiet h = h
  never_stops faults after blamed (Yes a) quiet h = h
  never_stops faults after blamed (Done text) quiet h = h
  never_stops faults after blamed (Differs text) quiet h = h

-- ---- a file that is not there, behind files that are held

module _ (files : Files) (words : List (List ℕ)) (fs : List CommandFile) (i : ℕ) (f : CommandFile) (xs : List (List ℕ))
    (here : slice_get fs i ≡ Some f) (read : AreRead (Some files) words (take i fs) xs)
    (absent : files (word_at words f.place) ≡ None) where
  -- no later file is reached
  not_later : (j : ℕ) (ys : List (List ℕ)) → AreRead (Some files) words (take j fs) ys → i < j → ⊥
  not_later j ys up l = lacks_none files words (take j fs) ys up f i (get_of_take fs i j f l here) absent

  -- it is not held
  not_here : (g : CommandFile) (bytes : List ℕ) → slice_get fs i ≡ Some g → files (word_at words g.place) ≡ Some bytes → ⊥
  not_here g bytes there at =
      let e : g ≡ f = some_same g f (slice_get fs i) there here in
      let k : files (word_at words f.place) ≡ Some bytes = subst (λ z. files (word_at words z.place) ≡ Some bytes) e at in
      cc

  too_long_not_first : (j : ℕ) (g : CommandFile) (bytes : List ℕ) (ys : List (List ℕ)) → slice_get fs j ≡ Some g
      → AreRead (Some files) words (take j fs) ys → files (word_at words g.place) ≡ Some bytes → limit_of g.kind < length bytes → ⊥
  too_long_not_first j g bytes ys there up at long = by (cases_order j i) where
    by : (j ≡ i) ⊎ ((j < i) ⊎ (i < j)) → ⊥
    by (inl e) = not_here g bytes (subst (λ k. slice_get fs k ≡ Some g) e there) at
    by (inr (inl l)) = not_too_long files words (take i fs) xs read g j bytes (get_of_take fs j i g l there) at long
    by (inr (inr l)) = not_later j ys up l

  past_not_first : (j : ℕ) (g : CommandFile) (bytes : List ℕ) (ys : List (List ℕ)) → slice_get fs j ≡ Some g
      → AreRead (Some files) words (take j fs) ys → IsRead (Some files) words g bytes
      → MOST_DUMPS_BYTES < dumps_sum (take j fs) ys + dump_bytes g.kind (length bytes) → ⊥
  past_not_first j g bytes ys there up one past = by (cases_order j i) where
    by : (j ≡ i) ⊎ ((j < i) ⊎ (i < j)) → ⊥
    by (inl e) = not_here g bytes (subst (λ k. slice_get fs k ≡ Some g) e there) one.0
    by (inr (inl l)) =
        not_past files words (take i fs) xs read g j ys bytes (get_of_take fs j i g l there)
        (subst (λ gs. EachRead (Some files) words gs ys) (sym (take_of_take fs j i l)) up.each) one
        (subst (λ gs. MOST_DUMPS_BYTES < dumps_sum gs ys + dump_bytes g.kind (length bytes)) (sym (take_of_take fs j i l)) past)
    by (inr (inr l)) = not_later j ys up l

  pub stops_unread : (faults after : ℕ) (blamed : List ℕ) (v : Verdict)
      → Stopped (record { holds = Some files; faults = faults; faults_after = after; blamed = blamed }) words fs v
      → (place : ℕ) × (v ≡ Unread place)
  stops_unread faults after blamed Usage h = absurd h
  stops_unread faults after blamed (Unread place) h = (place, refl)
  stops_unread faults after blamed (TooLong place limit) h =
      absurd (too_long_not_first h.3.before h.0 h.4.0 h.3.contents h.3.here h.3.read h.4.1 h.4.2)
  stops_unread faults after blamed (PastTotal place) h =
      absurd (past_not_first h.2.before h.0 h.3.0 h.2.contents h.2.here h.2.read h.3.1 h.3.2)
  stops_unread faults after blamed (Refused place r) h = absurd h
  stops_unread faults after blamed (No g) h = absurd h
  stops_unread faults after blamed (Yes a) h = absurd h
  stops_unread faults after blamed (Done text) h = absurd h
  stops_unread faults after blamed (Differs text) h = absurd h
