-- A walk over the trees that an open document and a store have together, as one from that document.
use Rattle.std.proofs.Common.{◌≡◌, ℕ, List, [], Option, Some, Result, Ok, Err, sym, ap, ◌∙◌, subst}
use Rattle.std.specs.Option.{option_map_or}
use Rattle.ild_data.specs.Data.{Data}
use Rattle.ild_data.specs.Spell.{id_of}
use Rattle.ild_edges.specs.Store.{Moment, block_at}
use Rattle.ild_links.proofs.OneWalk.{answered}
use Rattle.ild_links.specs.Follows.{Agrees, FollowCause, Follows, FollowsIn}
use Rattle.ild_links.specs.Trees.{Stands, first_tree}
use Rattle.ild_links.specs.Walk.{Walk, Walked}
use Rattle.ild_links.specs.declared.error.LinkErr.{LinkErr}
use Rattle.ild_links.specs.declared.error.LinkErr.TheVariants as L
use Rattle.ild_links.specs.declared.error.TreeErr.TheVariants as E
use Rattle.ild_links.specs.declared.following.TheConstants.{MOST_LINKS}
use Rattle.ild_links.specs.declared.hop.Hop.{Hop}
use Rattle.ild_links_lines.specs.Lines.{WalksFrom, root_under, trees_from}
use Rattle.ild_links_lines.specs.Walks.{AgreesWith, IsWalkedSo, WalkCause, WalksAlong, trees_of}
use Rattle.ild_links_walk.specs.inside.Refusals.{link_refusal}
use Rattle.ild_path_edits.specs.Judged.{Tests}
use Rattle.ild_run_links.proofs.Standing.{stands_for}
use Rattle.ild_run_links.proofs.Stopped.{later_store}
use Rattle.ild_run_links.specs.Moments.{with_lacks}
use Rattle.ild_run_links.specs.Trees.{Setting as Reading, Storable, trees}
use Rattle.ild_run_standing.proofs.Held.{held_are_standing}
use Rattle.ild_run_standing.specs.Standing.{IsHeldAt, setting_of}
use Rattle.ild_schema.specs.Value.{Value}
use Rattle.ild_script.specs.declared.reply.No.{No}
use Rattle.ild_typed.specs.Stands.{Stands as StandsUnder, bare, root_id}
use Rattle.ild_view_doc.specs.Docs.{block_in, table_in, type_in}
use Rattle.ild_view_doc.specs.declared.doc.Doc.{Doc}

module _ (h : List ℕ → List ℕ) (d : Doc) where
  abbrev pub First : Reading
  First = trees_of h d

  -- a value that stands under the id of the document's block stands for the first tree
  pub first_stands : (held : List (List ℕ)) (v : Value) → StandsUnder bare (block_at held) h (table_in d) (type_in d) (id_of (block_in d)) v → Stands (Storable First) (trees First) held (first_tree (trees First)) v
  first_stands held v st = stands_for First held (first_tree (trees First)) v st

  -- the trees from that value on are those from the document on
  pub from_here : (tests : Tests) (held : List (List ℕ)) (v : Value) → StandsUnder bare (block_at held) h (table_in d) (type_in d) (id_of (block_in d)) v → trees_from (setting_of h d tests) v ≡ First
  from_here tests held v st =
      let root : root_under (setting_of h d tests) v ≡ id_of (block_in d) = ap (λ (o : Option Data). option_map_or (root_id bare) o []) st.storable.tree ∙ sym st.root in
      ap (λ (i : List ℕ). record { hash = h; rows = table_in d; ty = type_in d; id = i }) root

  pub walk_here : (tests : Tests) (held : List (List ℕ)) (v : Value) (path : List (List ℕ)) (walked : Walked Value) → StandsUnder bare (block_at held) h (table_in d) (type_in d) (id_of (block_in d)) v
      → WalksFrom (setting_of h d tests) held v path walked → Walk (Storable First) (trees First) held path MOST_LINKS (first_tree (trees First)) v 0 walked
  walk_here tests held v path walked st walk = subst (λ (r : Reading). Walk (Storable r) (trees r) held path MOST_LINKS (first_tree (trees r)) v 0 walked) (from_here tests held v st) walk

  module _ (path : List (List ℕ)) (m n : Moment) (k l : ℕ) where
    abbrev pub FollowsFrom : Result (List Hop) LinkErr → Type 0
    FollowsFrom r = Follows (Storable First) (trees First) MOST_LINKS (with_lacks m k) (first_tree (trees First)) path 0 r (with_lacks n l)

    cause_of : (e : LinkErr) → FollowCause (with_lacks m k) (Err e) (with_lacks n l) → WalkCause m (Err (link_refusal e)) n
    cause_of L.Depth c = tt
    cause_of (L.Tree (E.Block j)) c = tt
    cause_of (L.Tree E.Store) c = c
    cause_of (L.Tree (E.Clash j kept new)) c = c
    cause_of (L.Tree E.Memory) c = tt

    agrees_as : (e : LinkErr) (walked : Walked Value) → Agrees walked (Err e) → AgreesWith walked (Err (link_refusal e))
    agrees_as L.Depth walked a = a
    agrees_as (L.Tree (E.Block j)) walked a = (j.0, a)
    agrees_as (L.Tree E.Store) walked a = tt
    agrees_as (L.Tree (E.Clash j kept new)) walked a = tt
    agrees_as (L.Tree E.Memory) walked a = tt

    -- what is said in the value at which the document stands
    told_here : (r : Result (List Hop) LinkErr) (s : Result (List Hop) No) → FollowsFrom r → ((walked : Walked Value) → Agrees walked r → AgreesWith walked s)
        → (tests : Tests) (held : List (List ℕ)) (v : Value) (walked : Walked Value) → m.blocks ≡ Some held → IsHeldAt h d tests m v → WalksFrom (setting_of h d tests) held v path walked
        → IsWalkedSo (setting_of h d tests) v path walked m.gets n.gets s
    told_here r s f agrees tests held v walked told at walk =
        let st = held_are_standing h d tests m held v told at in
        let here = walk_here tests held v path walked st walk in
        let in_value : FollowsIn (Storable First) (trees First) MOST_LINKS held (first_tree (trees First)) v path 0 m.gets n.gets r = f.told held v told (first_stands held v st) in
        record {
          agrees = agrees walked (in_value.each walked here);
          gets = λ there. in_value.gets walked here there;
        }

    pub walks_ok : (hops : List Hop) → FollowsFrom (Ok hops) → WalksAlong h d path m (Ok hops) n
    walks_ok hops f = record {
      hops = f.hops;
      cause = tt;
      later = later_store m n k l f.later;
      blocks = f.blocks;
      puts = f.puts;
      walk = λ held told has. answered (Storable First) (trees First) (with_lacks m k) (with_lacks n l) path hops f held told (record { value = has.value; stands = first_stands held has.value has.stands });
      told = told_here (Ok hops) (Ok hops) f (λ walked a. a);
    }

    pub walks_err : (e : LinkErr) → FollowsFrom (Err e) → WalksAlong h d path m (Err (link_refusal e)) n
    walks_err e f = record {
      hops = tt;
      cause = cause_of e f.cause;
      later = later_store m n k l f.later;
      blocks = f.blocks;
      puts = f.puts;
      walk = λ held told has. tt;
      told = told_here (Err e) (Err (link_refusal e)) f (λ walked a. agrees_as e walked a);
    }

-- ---- with the names that a call has for the document and the moments

pub over_doc : (h : List ℕ → List ℕ) (d e : Doc) (path : List (List ℕ)) (m x n y : Moment) (k l : ℕ) (r : Result (List Hop) LinkErr) → e ≡ d → x ≡ m → n ≡ y → FollowsFrom h e path x y k l r → FollowsFrom h d path m n k l r
over_doc h d e path m x n y k l r same begin end f =
    subst (λ (z : Moment). FollowsFrom h d path m z k l r) (sym end) (subst (λ (z : Moment). FollowsFrom h d path z y k l r) begin (subst (λ (z : Doc). FollowsFrom h z path x y k l r) same f))
