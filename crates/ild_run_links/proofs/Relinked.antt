-- A link set in a tree's value, as the trees over a store answer it.
use Rattle.std.proofs.Common.{◌≡◌, ◌≤◌, ◌+◌, inl, ℕ, List, [], ◌∷◌, Some, IsSome, Result, Ok, Err, refl, sym, ◌∙◌, subst, arith}
use Rattle.std.proofs.Math.Logic.{∥∥₁_elim, ∥∥₁_map}
use Rattle.std.proofs.Props.{props}
use Rattle.std.specs.List.{AllByRecursion}
use Rattle.std.specs.Prelude.{option_and_then}
use Rattle.ild_data.specs.Spell.{id_of}
use Rattle.ild_data.specs.declared.id.BlockId.{BlockId}
use Rattle.ild_edges.proofs.Later.{Later-trans}
use Rattle.ild_edges.specs.Gained.{CameFrom, CameWhole, OnlyReads}
use Rattle.ild_edges.specs.Store.{Keeps, Later, Moment, block_at}
use Rattle.ild_edges.specs.Told.{BothTold, IfTold}
use Rattle.ild_links.proofs.Linking.{before}
use Rattle.ild_links.specs.Relinks.{HasLink, RelinkAnswer, Relinks}
use Rattle.ild_links.specs.Trees.{Stands, followed, tree_of}
use Rattle.ild_links.specs.declared.error.TreeErr.{TreeErr}
use Rattle.ild_links.specs.declared.hop.Hop.{Hop}
use Rattle.ild_run_links.proofs.Setting.{both_same, causes_on, no_reads}
use Rattle.ild_run_links.proofs.Standing.{stands_for, stands_under}
use Rattle.ild_run_links.proofs.Stopped.{lacks_more, later_lacks}
use Rattle.ild_run_links.specs.Links.{link_to, relinked}
use Rattle.ild_run_links.specs.Moments.{HasStanding, HoldsBlock, HoldsValue, with_lacks}
use Rattle.ild_run_links.specs.Trees.{Setting, Storable, blocks_in, trees}
use Rattle.ild_run_links.specs.declared.fault.TreeFault.{TreeFault}
use Rattle.ild_run_links.specs.declared.fault.TreeFault.TheVariants as F
use Rattle.ild_run_links.specs.inside.Faults.{lacks_after, tree_err}
use Rattle.ild_run_links.specs.inside.Sets.{Causes, RootAnswer, SetAnswer, SetsLink, SetsThere, SetsTree, SetsValue}
use Rattle.ild_schema.specs.Slots.{plainly}
use Rattle.ild_schema.specs.Value.{Value}
use Rattle.ild_schema.specs.declared.number.TypeNo.{TypeNo}
use Rattle.ild_schema.specs.declared.row.Row.{Row}
use Rattle.ild_typed.proofs.TreeKept.{one_stands}
use Rattle.ild_typed.specs.At.{at}
use Rattle.ild_typed.specs.Schema.{IsSchema}
use Rattle.ild_typed.specs.Stands.{IsFrame, Stands as StandsUnder, bare, blocks_of}
use Rattle.ild_typed_places.specs.Places.{children_in}
use Rattle.ild_view_doc.specs.Docs.{block_in, table_in, type_in}
use Rattle.ild_view_doc.specs.declared.doc.Doc.{Doc}

-- ---- one tree

-- the document of a tree's root block was read until k
module _ (h : List ℕ → List ℕ) (d : Doc) (rows : List Row) (hop : Hop) (path : List (List ℕ)) (new : List ℕ) (m k o : Moment) (r : Result BlockId TreeFault) (table : table_in d ≡ rows) (type : type_in d ≡ hop.ty) (root : id_of (block_in d) ≡ hop.id.0)
    (own : (was : List (List ℕ)) → m.blocks ≡ Some was → block_at was (id_of (block_in d)) ≡ Some (block_in d)) (reads : OnlyReads m k) (few : k.gets ≤ m.gets + 1) (x : SetsLink h d (followed path hop) new k r o) where
  of_link : (was : List (List ℕ)) (v : Value) → m.blocks ≡ Some was → StandsUnder bare (block_at was) h rows hop.ty hop.id.0 v → IsSome (option_and_then (link_to rows) (at rows (plainly hop.ty, v) (followed path hop)))
      → SetsThere h rows hop.ty v (followed path hop) new k r o
  of_link was v told st some =
      let st_own = subst (λ (id : List ℕ). StandsUnder bare (block_at was) h (table_in d) (type_in d) id v) (sym root)
      (subst (λ (ty : TypeNo). StandsUnder bare (block_at was) h (table_in d) ty hop.id.0 v) (sym type) (subst (λ (t : List Row). StandsUnder bare (block_at was) h t hop.ty hop.id.0 v) (sym table) st)) in
      let some_own = subst (λ (ty : TypeNo). IsSome (option_and_then (link_to (table_in d)) (at (table_in d) (plainly ty, v) (followed path hop)))) (sym type)
      (subst (λ (t : List Row). IsSome (option_and_then (link_to t) (at t (plainly hop.ty, v) (followed path hop)))) (sym table) some) in
      subst (λ (t : List Row). SetsThere h t hop.ty v (followed path hop) new k r o) table
      (subst (λ (ty : TypeNo). SetsThere h (table_in d) ty v (followed path hop) new k r o) type (x.told was v (reads.blocks ∙ told) (own was told) st_own some_own))

  pub sets_tree : SetsTree h rows path hop new m r o
  sets_tree = record {
    later = Later-trans m k o reads.later x.later;
    cause = causes_on m k o r reads.later x.cause;
    told = λ was v told st some.
        let y = of_link was v told st some in record {
          answer = y.answer;
          adds = subst (λ b. BothTold b o.blocks (λ a c. CameFrom (blocks_in h rows hop.ty (relinked rows (plainly hop.ty, v) (followed path hop) new)) a c)) reads.blocks y.adds;
          whole = subst (λ b. BothTold b o.blocks (λ a c. CameWhole (children_in bare h rows hop.ty (relinked rows (plainly hop.ty, v) (followed path hop) new)) a c)) reads.blocks y.whole;
          gets = let up = y.gets in omega (arith, few, up);
          puts = let up = y.puts in let same = reads.puts in omega (arith, up, same);
        };
  }

-- no root block was read, by gets alone until k
module _ (h : List ℕ → List ℕ) (rows : List Row) (hop : Hop) (path : List (List ℕ)) (new : List ℕ) (m k : Moment) (reads : OnlyReads m k) (few : k.gets ≤ m.gets + 1) where
  root_cause : (e : TreeFault) → RootAnswer rows hop.ty hop.id.0 m (Err e) k → Causes m (Err e) k
  root_cause F.Block x = tt
  root_cause F.Store x = x
  root_cause (F.Clash at kept block) x = absurd x
  root_cause F.Memory x = tt

  root_answer : (e : TreeFault) (c : Value) (was : List (List ℕ)) (v : Value) → m.blocks ≡ Some was → StandsUnder bare (block_at was) h rows hop.ty hop.id.0 v → RootAnswer rows hop.ty hop.id.0 m (Err e) k → SetAnswer h rows hop.ty c (Err e) k
  root_answer F.Block c was v told st x = x h was v told st
  root_answer F.Store c was v told st x = tt
  root_answer (F.Clash at kept block) c was v told st x = absurd x
  root_answer F.Memory c was v told st x = tt

  pub no_tree : (e : TreeFault) → RootAnswer rows hop.ty hop.id.0 m (Err e) k → SetsTree h rows path hop new m (Err e) k
  no_tree e x = record {
    later = reads.later;
    cause = root_cause e x;
    told = λ was v told st some. record {
      answer = root_answer e (relinked rows (plainly hop.ty, v) (followed path hop) new) was v told st x;
      adds = both_same m.blocks k.blocks _ reads.blocks (λ a id b there. inl there);
      whole = both_same m.blocks k.blocks _ reads.blocks (λ a id b there. inl there);
      gets = omega (arith, few);
      puts = let same = reads.puts in omega (arith, same);
    };
  }

-- no memory for the segments
pub no_memory : (h : List ℕ → List ℕ) (rows : List Row) (hop : Hop) (path : List (List ℕ)) (new : List ℕ) (m : Moment) (r : Result BlockId TreeFault) → r ≡ Err F.Memory → SetsTree h rows path hop new m r m
no_memory h rows hop path new m r is = subst (λ (x : Result BlockId TreeFault). SetsTree h rows path hop new m x m) (sym is) (no_tree h rows hop path new m m (no_reads m) (omega arith) F.Memory tt)

-- ---- the trees over a store

bare_is_frame : IsFrame bare
bare_is_frame = record { less = omega arith; apart = λ c d same. same; fits = λ d fits. fits; blocks = tt }

module _ (w : Setting) (schema : IsSchema w.rows) (path : List (List ℕ)) (hop : Hop) (new : List ℕ) (m n : Moment) (l : ℕ)
    (link : (held : List (List ℕ)) → m.blocks ≡ Some held → ∥ HasLink (Storable w) (trees w) held path hop ∥₁) where
  abbrev In : List (List ℕ) → Value → Type 0
  In held v = Stands (Storable w) (trees w) held (tree_of hop) v

  -- the value that stands for the tree has the link
  linked : (was : List (List ℕ)) (v : Value) → m.blocks ≡ Some was → In was v → IsSome ((trees w).link hop.ty v (followed path hop))
  linked was v told st =
      ∥∥₁_elim (link was told) (hlevel props) (λ has.
      let same : has.value ≡ v = one_stands bare bare_is_frame (block_at was) w.hash w.rows schema hop.ty hop.id.0 has.value v (stands_under w was (tree_of hop) has.value has.stands) (stands_under w was (tree_of hop) v st) in
      subst (λ u. IsSome ((trees w).link hop.ty u (followed path hop))) same has.link)

  module _ (r : Result BlockId TreeFault) (x : SetsTree w.hash w.rows path hop new m r n) where
    set_value : (was : List (List ℕ)) (v : Value) → m.blocks ≡ Some was → In was v → SetsValue w.hash w.rows hop.ty v (followed path hop) new m r n
    set_value was v told st = x.told was v told (stands_under w was (tree_of hop) v st) (linked was v told st)

    pub relinks : (result : Result BlockId TreeErr) (more : ℕ) → l ≤ more → RelinkAnswer (Storable w) (trees w) (with_lacks m l) path hop new result (with_lacks n more) → Relinks (Storable w) (trees w) (with_lacks m l) path hop new result (with_lacks n more)
    relinks result more le answer = record {
      answer = answer;
      later = later_lacks m n l more le x.later;
      whole = λ was now v told told_now st.
          subst (λ o. BothTold o (Some now) (λ a b. CameWhole (children_in bare w.hash w.rows hop.ty (relinked w.rows (plainly hop.ty, v) (followed path hop) new)) a b)) told
          (subst (λ o. BothTold m.blocks o (λ a b. CameWhole (children_in bare w.hash w.rows hop.ty (relinked w.rows (plainly hop.ty, v) (followed path hop) new)) a b)) told_now (set_value was v told st).whole);
      gets = λ was now v told told_now st. let up = (set_value was v told st).gets in omega (arith, up);
      puts = λ was now v told told_now st. (set_value was v told st).puts;
    }

  pub relinks_ok : (root : BlockId) → SetsTree w.hash w.rows path hop new m (Ok root) n → Relinks (Storable w) (trees w) (with_lacks m l) path hop new (Ok root) (with_lacks n l)
  relinks_ok root x = relinks (Ok root) x (Ok root) l (omega arith) (λ was now v told told_now st.
      let y = set_value (Ok root) x was v told st in
      record {
        stands = stands_for w now (record { first = hop.first; ty = hop.ty; id = root.0 }) (relinked w.rows (plainly hop.ty, v) (followed path hop) new)
            (subst (λ o. IfTold o (λ held. StandsUnder bare (block_at held) w.hash w.rows hop.ty root.0 (relinked w.rows (plainly hop.ty, v) (followed path hop) new))) told_now y.answer);
        adds = subst (λ o. BothTold o (Some now) (λ a b. CameFrom (blocks_in w.hash w.rows hop.ty (relinked w.rows (plainly hop.ty, v) (followed path hop) new)) a b)) told
            (subst (λ o. BothTold m.blocks o (λ a b. CameFrom (blocks_in w.hash w.rows hop.ty (relinked w.rows (plainly hop.ty, v) (followed path hop) new)) a b)) told_now y.adds);
      })

  why_not : (e : TreeFault) → SetsTree w.hash w.rows path hop new m (Err e) n → RelinkAnswer (Storable w) (trees w) (with_lacks m l) path hop new (Err (tree_err hop.id e)) (with_lacks n (lacks_after l e))
  why_not F.Block x = ((refl, λ held told v st. (set_value (Err F.Block) x held v told st).answer), λ untold. lacks_more m n l x.later)
  why_not F.Store x = x.cause
  why_not (F.Clash at kept block) x = (
    x.cause,
    λ was now v told told_now st.
        let y = (set_value (Err (F.Clash at kept block)) x was v told st).answer in
        record { held = subst (λ o. IfTold o (λ held. block_at held (id_of kept) ≡ Some kept)) told_now y.1; among = y.0 },
  )
  why_not F.Memory x = tt

  pub relinks_err : (e : TreeFault) → SetsTree w.hash w.rows path hop new m (Err e) n → l ≤ lacks_after l e → Relinks (Storable w) (trees w) (with_lacks m l) path hop new (Err (tree_err hop.id e)) (with_lacks n (lacks_after l e))
  relinks_err e x grows = relinks (Err e) x (Err (tree_err hop.id e)) (lacks_after l e) grows (why_not e x)

-- ---- what stays known of the first tree

pub still_held : (d : Doc) (m n : Moment) → Later m n → HoldsBlock d m → HoldsBlock d n
still_held d m n later held now told = let b = before m n now later told in b.keeps (id_of (block_in d)) (block_in d) (held b.was b.told)

all_under : (was now : List (List ℕ)) (bs : List (List ℕ)) → Keeps was now → AllByRecursion (λ b. block_at was (id_of b) ≡ Some b) bs → AllByRecursion (λ b. block_at now (id_of b) ≡ Some b) bs
all_under was now bs keeps all = by bs all where
  by : (bs : List (List ℕ)) → AllByRecursion (λ b. block_at was (id_of b) ≡ Some b) bs → AllByRecursion (λ b. block_at now (id_of b) ≡ Some b) bs
  by [] all = tt
  by (b ∷ bs) all = (keeps (id_of b) b all.0, by bs all.1)

pub still_stands : (h : List ℕ → List ℕ) (d : Doc) (m n : Moment) → Later m n → HoldsValue h d m → HoldsValue h d n
still_stands h d m n later value now told =
    let b = before m n now later told in
    ∥∥₁_map (value b.was b.told) (λ (x : HasStanding h d b.was). record {
      value = x.value;
      stands = record { tree = x.stands.tree; storable = x.stands.storable; root = x.stands.root; all = all_under b.was now (blocks_of bare h (table_in d) (type_in d) x.value x.stands.tree) b.keeps x.stands.all };
    })
