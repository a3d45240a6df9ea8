-- What putting the blocks of a value leaves.
use Rattle.std.proofs.Common.{◌≡◌, ◌⊎◌, ℕ, ◌+◌, List, [], ◌∷◌, Option, Some, None, Result, Ok, Err, refl, sym, ap, ◌∙◌, subst, inl, inr, arith}
use Rattle.std.specs.Prelude.{length, Contains}
use Rattle.std.proofs.lemmas.List.Elements.{Contains-append_left, Contains-append_right, Contains-push_cases}
use Rattle.ild_bulk_places.specs.Leaving.{AddsPlaced, HasPlaceHeld}
use Rattle.ild_typed_places.specs.Places.{Places, places_in, tops}
use Rattle.ild_typed.proofs.Rooms.{all_more}
use Rattle.ild_data.specs.Data.{Data}
use Rattle.ild_data.specs.Spell.{spell, id_of}
use Rattle.ild_data.specs.declared.id.BlockId.{BlockId}
use Rattle.ild_edges.specs.Gained.{AreHeld, CameFrom}
use Rattle.ild_edges.specs.Store.{Moment, Later, Keeps, block_at}
use Rattle.ild_edges.specs.Told.{IfTold, BothTold}
use Rattle.ild_edges.proofs.Later.{Later-trans}
use Rattle.ild_schema.specs.declared.number.TypeNo.{TypeNo}
use Rattle.ild_schema.specs.declared.row.Row.{Row}
use Rattle.ild_schema.specs.Slots.{plainly}
use Rattle.ild_schema.specs.Value.{Value}
use Rattle.ild_script_session.specs.Puts.{PutAnswer, PutsBlock}
use Rattle.ild_script_session.proofs.Steps.{all_keeps}
use Rattle.ild_script_session.specs.declared.putting.PutFault.{PutFault}
use Rattle.ild_script_session.specs.declared.putting.PutFault.TheVariants as P
use Rattle.ild_typed.specs.Blocks.{nodes}
use Rattle.ild_typed.specs.Schema.{IsSchema}
use Rattle.ild_typed.specs.Stands.{bare, root_id, blocks_of, Storable, Stands}
use Rattle.ild_build_blocks.specs.Builds.{Holds}
use Rattle.ild_run_create.specs.Given.{IsGivenAs}
use Rattle.ild_run_create.specs.inside.Steps.{put_fault, Stops, TriesNodes, BlockAnswer, HasBlock}
use Rattle.ild_run_create.specs.Creates.{HasChildren, Tries, CreateAnswer, Creates}
use Rattle.ild_run_create.specs.declared.fault.CreateFault.{CreateFault}
use Rattle.ild_run_create.specs.declared.fault.CreateFault.TheVariants as F
use Rattle.ild_run_create.proofs.Outcomes.{bare_blocks}
use Rattle.ild_run_create.proofs.Outcomes.{first_given}

-- ---- what is told at one moment after another

told_chain : (P Q R : List (List ℕ) → List (List ℕ) → Type 0) (a b c : Option (List (List ℕ))) → ((x y z : List (List ℕ)) → P x y → Q y z → R x z) → BothTold a b P → BothTold b c Q → BothTold a c R
told_chain P Q R None None None f p q = tt
told_chain P Q R None None (Some z) f p q = absurd q
told_chain P Q R None (Some y) c f p q = absurd p
told_chain P Q R (Some x) None c f p q = absurd p
told_chain P Q R (Some x) (Some y) None f p q = absurd q
told_chain P Q R (Some x) (Some y) (Some z) f p q = f x y z p q

told_more : (P R : List (List ℕ) → List (List ℕ) → Type 0) (a b : Option (List (List ℕ))) → ((x y : List (List ℕ)) → P x y → R x y) → BothTold a b P → BothTold a b R
told_more P R None None f p = tt
told_more P R None (Some y) f p = absurd p
told_more P R (Some x) None f p = absurd p
told_more P R (Some x) (Some y) f p = f x y p

both_with : (P : List (List ℕ) → List (List ℕ) → Type 0) (R : List (List ℕ) → Type 0) (a b : Option (List (List ℕ))) → BothTold a b P → IfTold b R → BothTold a b (λ x y. P x y × R y)
both_with P R None None p r = tt
both_with P R None (Some y) p r = absurd p
both_with P R (Some x) None p r = absurd p
both_with P R (Some x) (Some y) p r = (p, r)

both : (P Q : List (List ℕ) → List (List ℕ) → Type 0) (a b : Option (List (List ℕ))) → BothTold a b P → BothTold a b Q → BothTold a b (λ x y. P x y × Q x y)
both P Q None None p q = tt
both P Q None (Some y) p q = absurd p
both P Q (Some x) None p q = absurd p
both P Q (Some x) (Some y) p q = (p, q)

kept_told : (R : List (List ℕ) → Type 0) (a b : Option (List (List ℕ))) → ((x y : List (List ℕ)) → Keeps x y → R x → R y) → BothTold a b Keeps → IfTold a R → IfTold b R
kept_told R None None f p r = tt
kept_told R None (Some y) f p r = absurd p
kept_told R (Some x) None f p r = absurd p
kept_told R (Some x) (Some y) f p r = f x y p r

-- ---- what is held stays held

over_kept : (ps : Places) (x y : List (List ℕ)) (b : List ℕ) → Keeps x y → HasPlaceHeld ps x b → HasPlaceHeld ps y b
over_kept ps x y b keeps over = record {
  at = over.at;
  among = over.among;
  is = over.is;
  children = all_more (λ c. block_at x (id_of c) ≡ Some c) (λ c. block_at y (id_of c) ≡ Some c) (λ c held. keeps (id_of c) c held) (tops over.at.1) over.children;
}

-- ---- the nodes of a value

-- a block of its nodes is one of its blocks
node_among : (h : List ℕ → List ℕ) (rows : List Row) (n : TypeNo) (v : Value) (d : Data) (b : List ℕ) → Contains (nodes h rows (plainly n) v) b → Contains (blocks_of bare h rows n v d) b
node_among h rows n v d b among =
    subst (λ (bs : List (List ℕ)). Contains bs b) (bare_blocks h rows n v d) (Contains-append_right (spell d ∷ []) (nodes h rows (plainly n) v) b among)

-- so is its root
root_among : (h : List ℕ → List ℕ) (rows : List Row) (n : TypeNo) (v : Value) (d : Data) (b : List ℕ) → Contains (spell d ∷ []) b → Contains (blocks_of bare h rows n v d) b
root_among h rows n v d b among =
    subst (λ (bs : List (List ℕ)). Contains bs b) (bare_blocks h rows n v d) (Contains-append_left (spell d ∷ []) (nodes h rows (plainly n) v) b among)

root_is : (d : Data) (b : List ℕ) → Contains (spell d ∷ []) b → spell d ≡ b
root_is d b among = by (Contains-push_cases [] (spell d) b among)
  where
    by : Contains [] b ⊎ (spell d ≡ b) → spell d ≡ b
    by (inl none) = let less = none.1 in absurd (omega (arith, less))
    by (inr same) = same

so_many : (h : List ℕ → List ℕ) (rows : List Row) (n : TypeNo) (v : Value) (d : Data) → length (blocks_of bare h rows n v d) ≡ length (nodes h rows (plainly n) v) + 1
so_many h rows n v d =
    let same : length (spell d ∷ nodes h rows (plainly n) v) ≡ length (blocks_of bare h rows n v d) = ap (λ (bs : List (List ℕ)). length bs) (bare_blocks h rows n v d) in
    omega (arith, same)

abbrev CameWhole : (List ℕ → List ℕ) → List Row → TypeNo → Value → Data → List (List ℕ) → List (List ℕ) → Type 0
CameWhole h rows n v d was now = (id b : List ℕ) → block_at now id ≡ Some b → (block_at was id ≡ Some b) ⊎ HasChildren h rows n v d now b

-- the nodes were put, and no root
pub only_nodes : (h : List ℕ → List ℕ) (rows : List Row) (n : TypeNo) (b : List ℕ) (v : Value) (m k : Moment) → IsGivenAs rows n b v → TriesNodes h rows n v m k → Tries h rows n b m k
only_nodes h rows n b v m k given tries =
    let d = tries.tree in
    let steps = tries.steps in
    record {
      value = v;
      tree = d;
      makes = record { given = given; storable = tries.storable };
      adds = told_more (CameFrom (nodes h rows (plainly n) v)) (CameFrom (blocks_of bare h rows n v d)) m.blocks k.blocks (λ was now came id x held. came_more was id x (came id x held)) steps.adds;
      children = told_more (AddsPlaced (places_in h rows (plainly n) v)) (CameWhole h rows n v d) m.blocks k.blocks (λ was now whole id x held. whole_more was now id x (whole id x held)) tries.children;
      gets = let same = steps.gets in omega (arith, same);
      puts = let most = steps.puts in let many = so_many h rows n v d in omega (arith, most, many);
    }
  where
    came_more : (was : List (List ℕ)) (id x : List ℕ) → (block_at was id ≡ Some x) ⊎ Contains (nodes h rows (plainly n) v) x → (block_at was id ≡ Some x) ⊎ Contains (blocks_of bare h rows n v tries.tree) x
    came_more was id x (inl held) = inl held
    came_more was id x (inr among) = inr (node_among h rows n v tries.tree x among)

    whole_more : (was now : List (List ℕ)) (id x : List ℕ) → (block_at was id ≡ Some x) ⊎ HasPlaceHeld (places_in h rows (plainly n) v) now x → (block_at was id ≡ Some x) ⊎ HasChildren h rows n v tries.tree now x
    whole_more was now id x (inl held) = inl held
    whole_more was now id x (inr over) = inr (inr over)

-- the nodes were put, and then the root, or not
pub with_root : (h : List ℕ → List ℕ) (rows : List Row) (n : TypeNo) (b : List ℕ) (v : Value) (m j k : Moment) (result : Result BlockId PutFault) → IsGivenAs rows n b v → (tries : TriesNodes h rows n v m j)
    → Holds j (nodes h rows (plainly n) v) → PutsBlock j (spell tries.tree) result k → Tries h rows n b m k
with_root h rows n b v m j k result given tries held puts =
    let d = tries.tree in
    let steps = tries.steps in
    let ns = nodes h rows (plainly n) v in
    record {
      value = v;
      tree = d;
      makes = record { given = given; storable = tries.storable };
      adds = told_chain (CameFrom ns) (CameFrom (spell d ∷ [])) (CameFrom (blocks_of bare h rows n v d)) m.blocks j.blocks k.blocks (λ was then now first last id x there. came was then id x (first id x) (last id x there)) steps.adds puts.adds;
      children = told_chain (λ was then. AddsPlaced (places_in h rows (plainly n) v) was then × AreHeld ns then) (λ then now. CameFrom (spell d ∷ []) then now × Keeps then now) (CameWhole h rows n v d) m.blocks j.blocks k.blocks
          (λ was then now first last id x there. whole was then now id x first.0 first.1 last.1 (last.0 id x there))
          (both_with (AddsPlaced (places_in h rows (plainly n) v)) (λ then. AreHeld ns then) m.blocks j.blocks tries.children held) (both (CameFrom (spell d ∷ [])) Keeps j.blocks k.blocks puts.adds puts.later.keeps);
      gets = let same = steps.gets in let no = puts.gets in omega (arith, same, no);
      puts = let most = steps.puts in let one = puts.puts in let many = so_many h rows n v d in omega (arith, most, one, many);
    }
  where
    came : (was then : List (List ℕ)) (id x : List ℕ) → (block_at then id ≡ Some x → (block_at was id ≡ Some x) ⊎ Contains (nodes h rows (plainly n) v) x) → (block_at then id ≡ Some x) ⊎ Contains (spell tries.tree ∷ []) x
        → (block_at was id ≡ Some x) ⊎ Contains (blocks_of bare h rows n v tries.tree) x
    came was then id x first (inr root) = inr (root_among h rows n v tries.tree x root)
    came was then id x first (inl there) = by (first there)
      where
        by : (block_at was id ≡ Some x) ⊎ Contains (nodes h rows (plainly n) v) x → (block_at was id ≡ Some x) ⊎ Contains (blocks_of bare h rows n v tries.tree) x
        by (inl held) = inl held
        by (inr among) = inr (node_among h rows n v tries.tree x among)

    whole : (was then now : List (List ℕ)) (id x : List ℕ) → AddsPlaced (places_in h rows (plainly n) v) was then → AreHeld (nodes h rows (plainly n) v) then → Keeps then now → (block_at then id ≡ Some x) ⊎ Contains (spell tries.tree ∷ []) x
        → (block_at was id ≡ Some x) ⊎ HasChildren h rows n v tries.tree now x
    whole was then now id x first all keeps (inr root) = inr (inl (sym (root_is tries.tree x root), all_keeps then now (nodes h rows (plainly n) v) keeps all))
    whole was then now id x first all keeps (inl there) = by (first id x there)
      where
        by : (block_at was id ≡ Some x) ⊎ HasPlaceHeld (places_in h rows (plainly n) v) then x → (block_at was id ≡ Some x) ⊎ HasChildren h rows n v tries.tree now x
        by (inl held) = inl held
        by (inr over) = inr (inr (over_kept (places_in h rows (plainly n) v) then now x keeps over))

-- ---- the value stands

stands_in : (h : List ℕ → List ℕ) (rows : List Row) (n : TypeNo) (v : Value) (d : Data) (id : List ℕ) → Storable bare h rows n v d → id ≡ root_id bare d → (told : Option (List (List ℕ)))
    → IfTold told (λ held. AreHeld (spell d ∷ []) held) → IfTold told (λ held. AreHeld (nodes h rows (plainly n) v) held) → IfTold told (λ held. Stands bare (block_at held) h rows n id v)
stands_in h rows n v d id storable root None one all = tt
stands_in h rows n v d id storable root (Some held) one all = record {
  tree = d;
  storable = storable;
  root = root;
  all = subst (λ (bs : List (List ℕ)). AreHeld bs held) (bare_blocks h rows n v d) (one.0, all);
}

-- ---- the answer

-- the answer to the put's
abbrev pub answer_of : Result BlockId PutFault → Result BlockId CreateFault
answer_of (Ok id) = Ok id
answer_of (Err f) = Err (put_fault f)

answered : (h : List ℕ → List ℕ) (rows : List Row) (n : TypeNo) (b : List ℕ) (v : Value) (m j k : Moment) (result : Result BlockId PutFault) → Later m j → IsGivenAs rows n b v → (tries : TriesNodes h rows n v m j)
    → Holds j (nodes h rows (plainly n) v) → PutsBlock j (spell tries.tree) result k → PutAnswer j (spell tries.tree) result k → CreateAnswer h rows n b m (answer_of result) k
unfolding with_root
answered h rows n b v m j k (Ok id) first given tries held puts answer = record {
  tried = with_root h rows n b v m j k (Ok id) given tries held puts;
  root = answer.0;
  stands = stands_in h rows n v tries.tree id.0 tries.storable answer.0 k.blocks answer.1
      (kept_told (λ then. AreHeld (nodes h rows (plainly n) v) then) j.blocks k.blocks (λ then now. all_keeps then now (nodes h rows (plainly n) v)) puts.later.keeps held);
}
answered h rows n b v m j k (Err P.Failed) first given tries held puts answer =
    (let rose = answer in let before = first.faults in omega (arith, rose, before), with_root h rows n b v m j k (Err P.Failed) given tries held puts)
answered h rows n b v m j k (Err (P.Clash id)) first given tries held puts answer =
    let hit = answer.1 in
    record {
      tried = with_root h rows n b v m j k (Err (P.Clash id)) given tries held puts;
      hit = record { kept = hit.kept; new = hit.new; held = hit.held; among = root_among h rows n v tries.tree hit.new hit.among; collide = hit.collide };
      named = answer.0 ∙ ap id_of (root_is tries.tree hit.new hit.among);
    }
answered h rows n b v m j k (Err P.Memory) first given tries held puts answer = inr (with_root h rows n b v m j k (Err P.Memory) given tries held puts)

pub creates : (h : List ℕ → List ℕ) (rows : List Row) (n : TypeNo) (b : List ℕ) (v : Value) (block : List ℕ) (m j k : Moment) (result : Result BlockId PutFault) → IsGivenAs rows n b v → HasBlock h rows n v m (Ok block) j
    → PutsBlock j block result k → Creates h rows n b m (answer_of result) k
creates h rows n b v block m j k result given has puts =
    let tries = has.answer.0 in
    let puts' = subst (λ (x : List ℕ). PutsBlock j x result k) has.answer.1 puts in
    record {
      answer = answered h rows n b v m j k result has.later given tries has.answer.2 puts' puts'.answer;
      later = Later-trans m j k has.later puts'.later;
    }

-- a value that has no block, or whose nodes can't be put
unbuilt : (h : List ℕ → List ℕ) (rows : List Row) → IsSchema rows → (n : TypeNo) (b : List ℕ) (v : Value) (m k : Moment) (f : CreateFault) → IsGivenAs rows n b v → BlockAnswer h rows n v m (Err f) k → CreateAnswer h rows n b m (Err f) k
unfolding only_nodes
unbuilt h rows schema n b v m k (F.Refused r) given answer = (first_given h rows schema n b v r given answer.0, answer.1)
unbuilt h rows schema n b v m k F.Store given answer = (answer.0, only_nodes h rows n b v m k given answer.1)
unbuilt h rows schema n b v m k (F.Clash id) given answer =
    let hit = answer.0 in
    record {
      tried = only_nodes h rows n b v m k given answer.1;
      hit = record { kept = hit.kept; new = hit.new; held = hit.is.held; among = node_among h rows n v answer.1.tree hit.new hit.is.among; collide = hit.is.collide };
      named = sym hit.is.named;
    }
unbuilt h rows schema n b v m k F.Memory given (inl same) = inl same
unbuilt h rows schema n b v m k F.Memory given (inr tries) = inr (only_nodes h rows n b v m k given tries)

pub no_block : (h : List ℕ → List ℕ) (rows : List Row) → IsSchema rows → (n : TypeNo) (b : List ℕ) (v : Value) (m k : Moment) (f : CreateFault) → IsGivenAs rows n b v → HasBlock h rows n v m (Err f) k → Creates h rows n b m (Err f) k
no_block h rows schema n b v m k f given has = record { answer = unbuilt h rows schema n b v m k f given has.answer; later = has.later }

pub refused : (h : List ℕ → List ℕ) (rows : List Row) (n : TypeNo) (b : List ℕ) (m : Moment) (f : CreateFault) → Later m m → Stops h rows n b f → Creates h rows n b m (Err f) m
refused h rows n b m (F.Refused r) same stops = record { answer = (stops, refl); later = same }
refused h rows n b m F.Store same stops = absurd stops
refused h rows n b m (F.Clash id) same stops = absurd stops
refused h rows n b m F.Memory same stops = record { answer = inl refl; later = same }
