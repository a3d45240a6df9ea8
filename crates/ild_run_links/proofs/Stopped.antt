-- Where a path stops in a tree, as the trees over a store answer it.
use Rattle.std.proofs.Common.{◌≡◌, ℕ, zero, suc, ◌+◌, ◌*◌, ◌-◌, ◌^◌, ◌≤◌, min, true, false, true≢false, cond, List, length, drop, Some, Result, Ok, Err, refl, sym, ap, ◌∙◌, subst, arith}
use Rattle.std.proofs.Math.Logic.{∥∥₁_elim}
use Rattle.std.proofs.Props.{props}
use Rattle.std.specs.List.{slice_get}
use Rattle.ild_data.specs.Spell.{id_of}
use Rattle.ild_data.specs.declared.id.BlockId.{BlockId}
use Rattle.ild_edges.specs.Count.{Rose, bumped}
use Rattle.ild_edges.specs.Gained.{OnlyReads}
use Rattle.ild_edges.specs.Store.{Moment, Later, StaysBelow, asked_over, block_at}
use Rattle.ild_edges.specs.Told.{BothTold}
use Rattle.ild_edges.proofs.Later.{Later-refl, Later-trans}
use Rattle.ild_edges.proofs.Reading.{from_told}
use Rattle.ild_links.specs.Stops.{IsPlaced, StopAnswer, Stops}
use Rattle.ild_links.specs.Trees.{IsThere, Stands, Tree}
use Rattle.ild_links.specs.declared.hop.Stop.{Stop}
use Rattle.ild_open.specs.Opened.{HasOpened, Opens}
use Rattle.ild_open_parts.specs.declared.fault.OpenFault.{OpenFault}
use Rattle.ild_open_parts.specs.declared.fault.OpenFault.TheVariants as O
use Rattle.ild_run_links.proofs.Standing.{blocks_are, left_link, stands_for, stands_under}
use Rattle.ild_run_links.specs.Moments.{HasStanding, HoldsBlock, HoldsValue, with_lacks}
use Rattle.ild_run_links.specs.Trees.{Setting, Storable, trees}
use Rattle.ild_run_links.specs.inside.Ends.{StopsInDoc, StopsThere}
use Rattle.ild_run_links.specs.inside.Faults.{lacks_after, open_fault, tree_err}
use Rattle.ild_run_links.specs.declared.fault.TreeFault.{TreeFault}
use Rattle.ild_run_links.specs.declared.fault.TreeFault.TheVariants as F
use Rattle.ild_schema.specs.Slots.{plainly}
use Rattle.ild_schema.specs.Value.{Value}
use Rattle.ild_schema.specs.declared.number.TypeNo.{TypeNo}
use Rattle.ild_schema.specs.declared.row.Row.{Row}
use Rattle.ild_typed.specs.Stands.{Stands as StandsUnder, bare, blocks_of}
use Rattle.ild_view_doc.specs.Docs.{block_in, table_in, type_in}
use Rattle.ild_view_doc.specs.declared.doc.Doc.{Doc}

-- ---- moments

abbrev BelowStays : Moment → Moment → Type 0
BelowStays m n = (i : ℕ) → BothTold (slice_get m.beneath i) (slice_get n.beneath i) (StaysBelow (asked_over m i) (asked_over n i))

-- that looks at no count of lacks
beneath_lacks : (m n : Moment) (k l : ℕ) → BelowStays m n → BelowStays (with_lacks m k) (with_lacks n l)
beneath_lacks m n k l p zero = p zero
beneath_lacks m n k l p (suc i) = p (suc i)

-- the two counts in one number
both_up : (a b k l : ℕ) → a ≤ b → k ≤ l → a * 2 ^ 64 + min k (2 ^ 64 - 1) ≤ b * 2 ^ 64 + min l (2 ^ 64 - 1)
both_up a b k l le more = omega (arith, le, more)

first_up : (a b k l : ℕ) → a * 2 ^ 64 + min k (2 ^ 64 - 1) ≤ b * 2 ^ 64 + min l (2 ^ 64 - 1) → a ≤ b
first_up a b k l le = omega (arith, le)

one_more : (a b l : ℕ) → a ≤ b → Rose (a * 2 ^ 64 + min l (2 ^ 64 - 1)) (b * 2 ^ 64 + min (bumped l) (2 ^ 64 - 1))
one_more a b l le = omega (arith, le)

pub later_lacks : (m n : Moment) (k l : ℕ) → k ≤ l → Later m n → Later (with_lacks m k) (with_lacks n l)
later_lacks m n k l le later = record {
  keeps = later.keeps;
  given = later.given;
  gets = later.gets;
  puts = later.puts;
  lacks = both_up m.lacks n.lacks k l later.lacks le;
  faults = later.faults;
  beneath = beneath_lacks m n k l later.beneath;
}

-- a tree more is found lacking
pub lacks_more : (m n : Moment) (l : ℕ) → Later m n → Rose (with_lacks m l).lacks (with_lacks n (bumped l)).lacks
lacks_more m n l later = one_more m.lacks n.lacks l later.lacks

beneath_back : (m n : Moment) (k l : ℕ) → BelowStays (with_lacks m k) (with_lacks n l) → BelowStays m n
beneath_back m n k l p zero = p zero
beneath_back m n k l p (suc i) = p (suc i)

-- and the other way
pub later_store : (m n : Moment) (k l : ℕ) → Later (with_lacks m k) (with_lacks n l) → Later m n
later_store m n k l later = record {
  keeps = later.keeps;
  given = later.given;
  gets = later.gets;
  puts = later.puts;
  lacks = first_up m.lacks n.lacks k l later.lacks;
  faults = later.faults;
  beneath = beneath_back m n k l later.beneath;
}

-- the root block d of a tree is at hand, from the moment m on, by gets until k
pub record IsAtHand (w : Setting) (t : Tree) (d : Doc) (m k : Moment) : Type 0 where
  pub table : table_in d ≡ w.rows
  pub type : type_in d ≡ t.ty
  pub root : id_of (block_in d) ≡ t.id
  pub own : (held : List (List ℕ)) → m.blocks ≡ Some held → block_at held (id_of (block_in d)) ≡ Some (block_in d)
  pub there : (held : List (List ℕ)) → m.blocks ≡ Some held → IsThere (Storable w) (trees w) held t
  pub reads : OnlyReads m k
  pub gets : (held : List (List ℕ)) (v : Value) → m.blocks ≡ Some held → Stands (Storable w) (trees w) held t v → k.gets ≤ m.gets + cond t.first 0 (length ((trees w).blocks t.first t.ty v))

module _ (w : Setting) (t : Tree) (d : Doc) (m k n : Moment) (l : ℕ) (at_hand : IsAtHand w t d m k) (path : List (List ℕ)) (from : ℕ) where
  told_now : (was : List (List ℕ)) → m.blocks ≡ Some was → k.blocks ≡ Some was
  told_now was told = at_hand.reads.blocks ∙ told

  -- what was said of the document, of the tree
  of_tree : (r : Result (Stop × ℕ) TreeFault) → StopsInDoc w.hash d path from k r n → (was : List (List ℕ)) (v : Value) → m.blocks ≡ Some was → Stands (Storable w) (trees w) was t v
      → StopsThere w.hash w.rows (plainly t.ty, v) (drop from path) from k r n
  of_tree r s was v told st =
      let under = stands_under w was t v st in
      let own = subst (λ (id : List ℕ). StandsUnder bare (block_at was) w.hash (table_in d) (type_in d) id v) (sym at_hand.root)
      (subst (λ (ty : TypeNo). StandsUnder bare (block_at was) w.hash (table_in d) ty t.id v) (sym at_hand.type) (subst (λ (rows : List Row). StandsUnder bare (block_at was) w.hash rows t.ty t.id v) (sym at_hand.table) under)) in
      subst (λ (rows : List Row). StopsThere w.hash rows (plainly t.ty, v) (drop from path) from k r n) at_hand.table
      (subst (λ (ty : TypeNo). StopsThere w.hash (table_in d) (plainly ty, v) (drop from path) from k r n) at_hand.type (s.told was v (told_now was told) (at_hand.own was told) own))

  rises : (r : Result (Stop × ℕ) TreeFault) → StopsInDoc w.hash d path from k r n → (held : List (List ℕ)) (v : Value) → m.blocks ≡ Some held → Stands (Storable w) (trees w) held t v
      → n.gets ≤ m.gets + ((trees w).way t.ty v (drop from path) + cond t.first 0 (length ((trees w).blocks t.first t.ty v)))
  rises r s held v told st = let a = at_hand.gets held v told st in let b = (of_tree r s held v told st).gets in omega (arith, a, b)

  pub stops_ok : (r : Stop × ℕ) → StopsInDoc w.hash d path from k (Ok r) n → Stops (Storable w) (trees w) (with_lacks m l) t path from (Ok r) (with_lacks n l)
  stops_ok r s = record {
    answer = (
      subst (λ (rows : List Row). IsPlaced (length rows) path from r.0 r.1) at_hand.table s.placed,
      λ held told. record {
        there = at_hand.there held told;
        link = λ v st. (of_tree (Ok r) s held v told st).answer.link ∙ left_link w.rows (drop from path) (plainly t.ty, v);
        place = λ v st. (of_tree (Ok r) s held v told st).answer.place;
      },
    );
    later = later_lacks m n l l (omega arith) (Later-trans m k n at_hand.reads.later s.reads.later);
    blocks = s.reads.blocks ∙ at_hand.reads.blocks;
    puts = s.reads.puts ∙ at_hand.reads.puts;
    gets = rises (Ok r) s;
  }

  answer_err : (e : TreeFault) → StopsInDoc w.hash d path from k (Err e) n → (id : BlockId) → id.0 ≡ t.id → StopAnswer (Storable w) (trees w) (with_lacks m l) t path from (Err (tree_err id e)) (with_lacks n (lacks_after l e))
  answer_err F.Block s id is = ((is, λ held told v st. (of_tree (Err F.Block) s held v told st).answer), λ untold. lacks_more m n l (Later-trans m k n at_hand.reads.later s.reads.later))
  answer_err F.Store s id is = let up = at_hand.reads.later.faults in let rose : Rose k.faults n.faults = s.failed in omega (arith, up, rose)
  answer_err (F.Clash at kept new) s id is = absurd s.failed
  answer_err F.Memory s id is = tt

  pub stops_err : (e : TreeFault) → StopsInDoc w.hash d path from k (Err e) n → (id : BlockId) → id.0 ≡ t.id → l ≤ lacks_after l e → Stops (Storable w) (trees w) (with_lacks m l) t path from (Err (tree_err id e)) (with_lacks n (lacks_after l e))
  stops_err e s id is grows = record {
    answer = answer_err e s id is;
    later = later_lacks m n l (lacks_after l e) grows (Later-trans m k n at_hand.reads.later s.reads.later);
    blocks = s.reads.blocks ∙ at_hand.reads.blocks;
    puts = s.reads.puts ∙ at_hand.reads.puts;
    gets = rises (Err e) s;
  }

-- ---- a root that is opened

module _ (w : Setting) (t : Tree) (m k : Moment) where
  -- its gets
  opening_gets : {A : Type 0} (Done : A → Type 0) (r : Result A OpenFault) → Opens Done w.hash w.rows t.ty t.id m r k → (held : List (List ℕ)) (v : Value) → m.blocks ≡ Some held → Stands (Storable w) (trees w) held t v
      → k.gets ≤ m.gets + length ((trees w).blocks t.first t.ty v)
  opening_gets Done r o held v told st =
      let under = stands_under w held t v st in
      let many : length ((trees w).blocks t.first t.ty v) ≡ length (blocks_of bare w.hash w.rows t.ty v under.tree) = ap length (blocks_are w.hash w.rows t.ty v under.tree under.storable.tree) in
      let le = o.gets held v told under in
      omega (arith, le, many)

  pub opened_at_hand : (d : Doc) → t.first ≡ false → Opens (HasOpened w.hash w.rows t.ty t.id k) w.hash w.rows t.ty t.id m (Ok d) k → IsAtHand w t d m k
  opened_at_hand d other o =
      let found : (held : List (List ℕ)) → m.blocks ≡ Some held → _ = λ held told. from_told k _ o.answer.value held (o.only.blocks ∙ told) in record {
        table = o.answer.table;
        type = o.answer.type;
        root = o.answer.root;
        own = λ held told. let f = found held told in subst (λ (b : List ℕ). block_at held (id_of b) ≡ Some b) (sym f.1.spelled) f.1.stands.all.0;
        there = λ held told. let f = found held told in (λ none. none f.0 (stands_for w held t f.0 f.1.stands), λ later_one. record { value = f.0; stands = stands_for w held t f.0 f.1.stands });
        reads = o.only;
        gets = λ held v told st. let le = opening_gets _ (Ok d) o held v told st in
            subst (λ b. k.gets ≤ m.gets + cond b 0 (length ((trees w).blocks t.first t.ty v))) (sym other) le;
      }

  closed_answer : (l : ℕ) (path : List (List ℕ)) (from : ℕ) (e : OpenFault) → Opens (HasOpened w.hash w.rows t.ty t.id k) w.hash w.rows t.ty t.id m (Err e) k → (id : BlockId) → id.0 ≡ t.id
      → StopAnswer (Storable w) (trees w) (with_lacks m l) t path from (Err (tree_err id (open_fault e))) (with_lacks k (lacks_after l (open_fault e)))
  closed_answer l path from (O.Block at why) o id is = ((is, λ held told v st. o.answer.0 held v told (stands_under w held t v st)), λ untold. lacks_more m k l o.only.later)
  closed_answer l path from O.Store o id is = o.answer
  closed_answer l path from O.Memory o id is = tt

  pub stops_closed : (l : ℕ) (path : List (List ℕ)) (from : ℕ) (e : OpenFault) → t.first ≡ false → Opens (HasOpened w.hash w.rows t.ty t.id k) w.hash w.rows t.ty t.id m (Err e) k → (id : BlockId) → id.0 ≡ t.id → l ≤ lacks_after l (open_fault e)
      → Stops (Storable w) (trees w) (with_lacks m l) t path from (Err (tree_err id (open_fault e))) (with_lacks k (lacks_after l (open_fault e)))
  stops_closed l path from e other o id is grows = record {
    answer = closed_answer l path from e o id is;
    later = later_lacks m k l (lacks_after l (open_fault e)) grows o.only.later;
    blocks = o.only.blocks;
    puts = o.only.puts;
    gets = λ held v told st. let le = opening_gets _ (Err e) o held v told st in
        let own : k.gets ≤ m.gets + cond t.first 0 (length ((trees w).blocks t.first t.ty v)) = subst (λ b. k.gets ≤ m.gets + cond b 0 (length ((trees w).blocks t.first t.ty v))) (sym other) le in
        omega (arith, own);
  }

-- ---- the first tree

pub first_at_hand : (w : Setting) (t : Tree) (d : Doc) (m : Moment) → table_in d ≡ w.rows → type_in d ≡ t.ty → id_of (block_in d) ≡ t.id → t.first ≡ true → HoldsBlock d m → HoldsValue w.hash d m → IsAtHand w t d m m
first_at_hand w t d m table type root first block value =
    let under : (held : List (List ℕ)) → HasStanding w.hash d held → (v : Value) × Stands (Storable w) (trees w) held t v = λ held x. (
      x.value,
      stands_for w held t x.value
          (subst (λ (rows : List Row). StandsUnder bare (block_at held) w.hash rows t.ty t.id x.value) table
          (subst (λ (ty : TypeNo). StandsUnder bare (block_at held) w.hash (table_in d) ty t.id x.value) type
          (subst (λ (id : List ℕ). StandsUnder bare (block_at held) w.hash (table_in d) (type_in d) id x.value) root x.stands))),
    ) in record {
      table = table;
      type = type;
      root = root;
      own = block;
      there = λ held told. (
        λ none. ∥∥₁_elim (value held told) (hlevel props) (λ x. let u = under held x in none u.0 u.1),
        λ other. absurd (true≢false (sym first ∙ other)),
      );
      reads = record { later = Later-refl m; blocks = refl; given = refl; puts = refl };
      gets = λ held v told st. omega arith;
    }
