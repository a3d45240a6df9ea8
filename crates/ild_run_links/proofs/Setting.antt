-- A link set in the value of a root block: the root block, the segments, and the place.
use Rattle.std.proofs.Common.{◌≡◌, ℕ, zero, suc, ◌+◌, ◌-◌, ◌<◌, ◌≤◌, min, max, inl, ⊎_elim, List, [], ◌∷◌, length, take, drop, Option, Some, None, IsSome, Result, Ok, Err, refl, sym, ap, ◌∙◌, subst, arith}
use Rattle.std.specs.Prelude.{option_and_then}
use Rattle.std.proofs.lemmas.Bool.{cases_lt}
use Rattle.std.proofs.lemmas.List.{length-drop, take_all}
use Rattle.std.proofs.lemmas.Option.{none-some, same_Some}
use Rattle.ild_cbor.specs.Reading.{fault_of}
use Rattle.ild_cbor.specs.declared.fault.CborFault.{CborFault}
use Rattle.ild_cbor.specs.declared.why.BlockWhy.TheVariants as B
use Rattle.ild_cbor.specs.declared.why.Why.{Why}
use Rattle.std.specs.List.{AllByRecursion}
use Rattle.ild_data.specs.Limits.{longest_block}
use Rattle.ild_edges.proofs.Later.{Later-refl}
use Rattle.ild_edges.specs.Count.{Rose}
use Rattle.ild_run_links.proofs.Standing.{blocks_are}
use Rattle.ild_run_links.specs.Trees.{blocks_in}
use Rattle.ild_run_links.specs.declared.fault.TreeFault.TheVariants as T
use Rattle.ild_data.specs.declared.id.BlockId.{BlockId}
use Rattle.ild_edges.specs.Gained.{CameFrom, CameWhole, IsUnder, OnlyReads}
use Rattle.ild_edges.specs.Store.{Gets, Moment, Later, block_at}
use Rattle.ild_edges.specs.declared.error.EdgeErr.{EdgeErr}
use Rattle.ild_edges.specs.Told.{BothTold}
use Rattle.ild_open.proofs.Settling.{open_stops}
use Rattle.ild_open_parts.specs.declared.fault.OpenFault.TheVariants as O
use Rattle.ild_path_edits.proofs.RoomTests.{schemas_have_tests}
use Rattle.ild_path_edits.proofs.Stops.{path_faults}
use Rattle.ild_path_edits.specs.Edit.{set_at}
use Rattle.ild_path_edits.specs.Stop.{place_fault}
use Rattle.ild_path_inward.specs.Levels.{met_on}
use Rattle.ild_path_place.specs.Places.{Locates, LocateAnswer, path_fault}
use Rattle.ild_path_place.specs.Rooted.{FailsOnly}
use Rattle.ild_path_place.specs.declared.fault.PathFault.{PathFault}
use Rattle.ild_path_place.specs.declared.fault.PathFault.TheVariants as L
use Rattle.ild_path_place.specs.declared.verb.Verb.TheVariants as V
use Rattle.ild_path_within.proofs.Splitting.{parts_are_set}
use Rattle.ild_run_links.specs.Links.{link_to, relinked}
use Rattle.ild_run_links.specs.inside.Faults.{path_fault as tree_fault}
use Rattle.ild_run_links.specs.declared.fault.TreeFault.{TreeFault}
use Rattle.ild_run_links.specs.inside.Sets.{Causes, SetAnswer, SetsThere}
use Rattle.ild_schema.specs.Legible.{IsLegible}
use Rattle.ild_schema.specs.Slots.{plainly}
use Rattle.ild_schema.specs.Value.{Value, null}
use Rattle.ild_schema.specs.declared.number.TypeNo.{TypeNo}
use Rattle.ild_schema.specs.declared.row.Row.{Row}
use Rattle.ild_typed.specs.At.{InSlot, at}
use Rattle.ild_typed.specs.Schema.{IsSchema}
use Rattle.ild_typed.specs.Stands.{Stands, bare}
use Rattle.ild_typed_places.specs.Places.{children_in}
use Rattle.ild_view_doc.specs.Docs.{IsShape}

-- ---- the root block

module _ (rows : List Row) (schema : IsSchema rows) (legible : IsLegible rows) (ty : TypeNo) (id : BlockId) (m n : Moment) (reads : OnlyReads m n) (few : n.gets ≤ m.gets + 1) (b : List ℕ) (under : IsUnder m.blocks id.0 b) where
  pub no_block : (fault : CborFault) → fault_of b ≡ Some fault → (h : List ℕ → List ℕ) (held : List (List ℕ)) (v : Value) → m.blocks ≡ Some held → Stands bare (block_at held) h rows ty id.0 v → ⊥
  no_block fault is h held v told st =
      (open_stops rows schema h ty id.0 legible (λ (u : Unit {0}). Unit {0}) m n (O.Block id (B.Cbor fault)) (record { answer = (refl, (b, under, is)); only = reads; gets = few })).answer.0 held v told st

  pub no_shape : (why : Why) → IsShape rows ty b why → (h : List ℕ → List ℕ) (held : List (List ℕ)) (v : Value) → m.blocks ≡ Some held → Stands bare (block_at held) h rows ty id.0 v → ⊥
  no_shape why is h held v told st =
      (open_stops rows schema h ty id.0 legible (λ (u : Unit {0}). Unit {0}) m n (O.Block id (B.Shape why)) (record { answer = (refl, (b, under, is)); only = reads; gets = few })).answer.0 held v told st

pub reads_of : (m n : Moment) (id : List ℕ) (r : Result (Option (List ℕ)) EdgeErr) → Gets m id r n → OnlyReads m n
reads_of m n id r x = record { later = x.later; blocks = x.blocks; given = x.given; puts = x.puts }

pub no_reads : (m : Moment) → OnlyReads m m
no_reads m = record { later = Later-refl m; blocks = refl; given = refl; puts = refl }

pub one_get : (m n : Moment) (id : List ℕ) (r : Result (Option (List ℕ)) EdgeErr) → Gets m id r n → n.gets ≤ m.gets + 1
one_get m n id r x = let up = x.gets in omega (arith, up)

-- ---- the segments

pub followed_is : (xs : List (List ℕ)) (a b from upto : ℕ) → from ≡ min a (length xs) → upto ≡ max (min b (length xs)) from → take (upto - from) (drop from xs) ≡ take (b - a) (drop a xs)
followed_is xs a b from upto f u = ⊎_elim inside outside (cases_lt (length xs) a) where
  inside : length xs < a → take (upto - from) (drop from xs) ≡ take (b - a) (drop a xs)
  inside lt =
      let l = length-drop from xs in
      let k = length-drop a xs in
      let no_left : length (drop from xs) ≡ 0 = omega (arith, l, f, lt) in
      let none : length (drop a xs) ≡ 0 = omega (arith, k, lt) in
      ap (take (upto - from)) (nil (drop from xs) no_left) ∙ taken (upto - from) ∙ sym (taken (b - a)) ∙ ap (take (b - a)) (sym (nil (drop a xs) none))
    where
      nil : (ys : List (List ℕ)) → length ys ≡ 0 → ys ≡ []
      nil [] e = refl
      nil (y ∷ ys) e = absurd (cc e)

      taken : (i : ℕ) → take {A = List ℕ} i [] ≡ []
      taken zero = refl
      taken (suc i) = refl

  outside : a ≤ length xs → take (upto - from) (drop from xs) ≡ take (b - a) (drop a xs)
  outside le =
      let same : from ≡ a = omega (arith, f, le) in
      ap (λ i. take (upto - i) (drop i xs)) same ∙ ⊎_elim (λ lt. past lt same) (λ ge. within ge same) (cases_lt (length xs) b)
    where
      past : length xs < b → from ≡ a → take (upto - a) (drop a xs) ≡ take (b - a) (drop a xs)
      past lt same = let l = length-drop a xs in take_all (upto - a) (drop a xs) (omega (arith, l, u, same, lt, le)) ∙ sym (take_all (b - a) (drop a xs) (omega (arith, l, lt, le)))

      within : b ≤ length xs → from ≡ a → take (upto - a) (drop a xs) ≡ take (b - a) (drop a xs)
      within ge same = ap (λ i. take i (drop a xs)) (omega (arith, u, same, ge, le))

-- ---- no place

pub fails_as : (A : Type 0) (m n : Moment) (e : PathFault) → FailsOnly {A = A} m (Err e) n → Causes m (Err (tree_fault e)) n
fails_as A m n (L.Path k) x = tt
fails_as A m n L.Mismatch x = tt
fails_as A m n (L.Block id why) x = tt
fails_as A m n L.Store x = x
fails_as A m n L.Memory x = tt

pub both_same : (o p : Option (List (List ℕ))) (P : List (List ℕ) → List (List ℕ) → Type 0) → p ≡ o → ((a : List (List ℕ)) → P a a) → BothTold o p P
both_same None None P is f = tt
both_same None (Some b) P is f = absurd (none-some b (sym is))
both_same (Some a) None P is f = absurd (none-some a is)
both_same (Some a) (Some b) P is f = subst (λ (x : List (List ℕ)). P a x) (same_Some a b (sym is)) (f a)

pub link_part : (rows : List Row) (o : Option InSlot) → IsSome (option_and_then (link_to rows) o) → (q : InSlot) × (o ≡ Some q)
link_part rows None some = absurd (cc some)
link_part rows (Some q) some = (q, refl)

module _ (h : List ℕ → List ℕ) (rows : List Row) (schema : IsSchema rows) (was : List (List ℕ)) (n : TypeNo) (v : Value) (path : List (List ℕ)) (new : List ℕ) (m k : Moment) (reads : OnlyReads m k) (some : IsSome (option_and_then (link_to rows) (at rows (plainly n, v) path))) where
  fault_same : (ss : List (List ℕ)) → place_fault rows (plainly n, v) (set_at ss (tt {0})) ≡ place_fault rows (plainly n, v) (set_at ss null)
  fault_same [] = refl
  fault_same (s ∷ ss) = refl

  never_nowhere : (i : ℕ) → path_fault rows (plainly n, v) path V.Set ≡ Some i → ⊥
  never_nowhere i is =
      let q = link_part rows (at rows (plainly n, v) path) some in
      let tests = schemas_have_tests rows schema in
      let done = parts_are_set rows tests.0.is_key (plainly n, v) q.0 path null q.1 in
      let refused = (path_faults rows tests.0.is_key (plainly n, v) (set_at path null)).1 (i, sym (fault_same path) ∙ is) in
      absurd (cc (sym done ∙ refused))

  answer_none : (A : Type 0) (e : PathFault) (c : Value) → LocateAnswer h rows was (plainly n, v) path V.Set m (Err e) k → SetAnswer h rows n c (Err (tree_fault e)) k
  answer_none A (L.Path i) c x = never_nowhere i x
  answer_none A L.Mismatch c x = x
  answer_none A (L.Block id why) c x = x
  answer_none A L.Store c x = tt
  answer_none A L.Memory c x = tt

  -- where nothing was put
  pub unset : (r : Result BlockId TreeFault) → SetAnswer h rows n (relinked rows (plainly n, v) path new) r k → k.gets ≤ m.gets + met_on h rows (plainly n, v) path → SetsThere h rows n v path new m r k
  unset r answer few = record {
    answer = answer;
    adds = both_same m.blocks k.blocks _ reads.blocks (λ a id b there. inl there);
    whole = both_same m.blocks k.blocks _ reads.blocks (λ a id b there. inl there);
    gets = few;
    puts = let same = reads.puts in omega (arith, same);
  }

  pub unplaced : (e : PathFault) → Locates h rows was (plainly n, v) path V.Set m (Err e) k → SetsThere h rows n v path new m (Err (tree_fault e)) k
  unplaced e x = unset (Err (tree_fault e)) (answer_none (Unit {0}) e (relinked rows (plainly n, v) path new) x.answer) x.gets

-- ---- behind the gets of a place

pub causes_on : (m k n : Moment) (r : Result BlockId TreeFault) → Later m k → Causes k r n → Causes m r n
causes_on m k n (Ok root) later x = tt
causes_on m k n (Err T.Block) later x = tt
causes_on m k n (Err T.Store) later x = let up = later.faults in let rose : Rose k.faults n.faults = x in omega (arith, up, rose)
causes_on m k n (Err (T.Clash at kept new)) later x = x
causes_on m k n (Err T.Memory) later x = tt

pub set_on : (h : List ℕ → List ℕ) (rows : List Row) (n : TypeNo) (v : Value) (path : List (List ℕ)) (new : List ℕ) (m k o : Moment) (r : Result BlockId TreeFault) → OnlyReads m k → k.gets ≤ m.gets + met_on h rows (plainly n, v) path → o.gets ≡ k.gets
    → SetsThere h rows n v path new k r o → SetsThere h rows n v path new m r o
set_on h rows n v path new m k o r reads few same x = record {
  answer = x.answer;
  adds = subst (λ b. BothTold b o.blocks (λ was now. CameFrom (blocks_in h rows n (relinked rows (plainly n, v) path new)) was now)) reads.blocks x.adds;
  whole = subst (λ b. BothTold b o.blocks (λ was now. CameWhole (children_in bare h rows n (relinked rows (plainly n, v) path new)) was now)) reads.blocks x.whole;
  gets = omega (arith, few, same);
  puts = let puts = x.puts in let still = reads.puts in omega (arith, puts, still);
}

pub sized : (h : List ℕ → List ℕ) (rows : List Row) (was : List (List ℕ)) (n : TypeNo) (id : List ℕ) (v : Value) → Stands bare (block_at was) h rows n id v → AllByRecursion (λ b. length b ≤ longest_block) (blocks_in h rows n v)
sized h rows was n id v st = subst (AllByRecursion (λ b. length b ≤ longest_block)) (sym (blocks_are h rows n v st.tree st.storable.tree)) st.storable.sized
