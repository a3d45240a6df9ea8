-- The tree of a hop, opened.
use Rattle.std.proofs.Common.{◌≡◌, ℕ, ◌+◌, ◌≤◌, false, List, length, drop, Some, Result, Ok, Err, refl, sym, ap, ◌∙◌, subst, arith}
use Rattle.ild_data.specs.Spell.{id_of}
use Rattle.ild_edges.proofs.Later.{Later-refl}
use Rattle.ild_edges.specs.Store.{Moment, block_at}
use Rattle.ild_links.specs.Trees.{Tree}
use Rattle.ild_links.specs.declared.hop.Hop.{Hop}
use Rattle.ild_links_walk.specs.Last.{OpenCause, OpenedAt, OpensLast, setting_at}
use Rattle.ild_links_walk.specs.inside.Refusals.{open_refusal}
use Rattle.ild_open.specs.Opened.{HasOpened, Opens}
use Rattle.ild_open_parts.specs.declared.fault.OpenFault.{OpenFault}
use Rattle.ild_open_parts.specs.declared.fault.OpenFault.TheVariants as O
use Rattle.ild_path_edits.specs.Judged.{Tests}
use Rattle.ild_run_links.proofs.Standing.{blocks_are}
use Rattle.ild_run_links.proofs.Stopped.{opened_at_hand}
use Rattle.ild_run_links.specs.Trees.{Setting as Reading}
use Rattle.ild_run_standing.specs.Laws.{StandingAreAt}
use Rattle.ild_run_standing.specs.Standing.{IsHeldAt}
use Rattle.ild_schema.specs.Value.{Value}
use Rattle.ild_schema.specs.declared.number.TypeNo.{TypeNo}
use Rattle.ild_schema.specs.declared.row.Row.{Row}
use Rattle.ild_script.specs.declared.reply.No.TheVariants as N
use Rattle.ild_script_meaning.specs.Lines.{value_blocks}
use Rattle.ild_typed.specs.Stands.{Stands, bare, blocks_of}
use Rattle.ild_view_doc.specs.Docs.{block_in, table_in, type_in}
use Rattle.ild_view_doc.specs.declared.doc.Doc.{Doc}

module _ (h : List ℕ → List ℕ) (rows : List Row) (hop : Hop) (path : List (List ℕ)) (m n : Moment) where
  abbrev pub OpensRoot : Result Doc OpenFault → Type 0
  OpensRoot r = Opens (HasOpened h rows hop.ty hop.id.0 n) h rows hop.ty hop.id.0 m r n

  few : (r : Result Doc OpenFault) → OpensRoot r → (tests : Tests) (held : List (List ℕ)) (v : Value) → m.blocks ≡ Some held → Stands bare (block_at held) h rows hop.ty hop.id.0 v
      → n.gets ≤ m.gets + length (value_blocks (setting_at h rows tests hop) v)
  few r o tests held v told st =
      let le = o.gets held v told st in
      let many : length (value_blocks (setting_at h rows tests hop) v) ≡ length (blocks_of bare h rows hop.ty v st.tree) = ap length (blocks_are h rows hop.ty v st.tree st.storable.tree) in
      omega (arith, le, many)

  -- the document stands at the value
  stands_there : (standing : StandingAreAt) (d : Doc) → OpensRoot (Ok d) → (tests : Tests) (held : List (List ℕ)) (v : Value) → m.blocks ≡ Some held → Stands bare (block_at held) h rows hop.ty hop.id.0 v → IsHeldAt h d tests n v
  stands_there standing d o tests held v told st =
      let w : Reading = record { hash = h; rows = rows; ty = hop.ty; id = hop.id.0 } in
      let t : Tree = record { first = false; ty = hop.ty; id = hop.id.0 } in
      let hand = opened_at_hand w t m n d refl o in
      let own : Stands bare (block_at held) h (table_in d) (type_in d) (id_of (block_in d)) v = subst (λ (i : List ℕ). Stands bare (block_at held) h (table_in d) (type_in d) i v) (sym hand.root)
      (subst (λ (ty : TypeNo). Stands bare (block_at held) h (table_in d) ty hop.id.0 v) (sym hand.type) (subst (λ (rs : List Row). Stands bare (block_at held) h rs hop.ty hop.id.0 v) (sym hand.table) st)) in
      standing h d tests n held v (hand.reads.blocks ∙ told) (hand.own held told) own

  pub opens_ok : StandingAreAt → (d : Doc) (rest : List (List ℕ)) → rest ≡ drop hop.from path → OpensRoot (Ok d) → OpensLast h rows hop path m (Ok (d, rest)) n
  opens_ok standing d rest is o = record {
    done = record { table = o.answer.table; type = o.answer.type; root = o.answer.root; rest = is };
    cause = tt;
    only = o.only;
    told = λ tests held v told st. record { at = stands_there standing d o tests held v told st; gets = few (Ok d) o tests held v told st };
  }

  cause_of : (e : OpenFault) → OpensRoot (Err e) → OpenCause m (Err (open_refusal e)) n
  cause_of (O.Block id why) o = tt
  cause_of O.Store o = o.answer
  cause_of O.Memory o = tt

  not_opened : (e : OpenFault) → OpensRoot (Err e) → (tests : Tests) (held : List (List ℕ)) (v : Value) → m.blocks ≡ Some held → Stands bare (block_at held) h rows hop.ty hop.id.0 v → OpenedAt h tests v (Err (open_refusal e)) n
  not_opened (O.Block id why) o tests held v told st = o.answer.0 held v told st
  not_opened O.Store o tests held v told st = tt
  not_opened O.Memory o tests held v told st = tt

  pub opens_err : (e : OpenFault) → OpensRoot (Err e) → OpensLast h rows hop path m (Err (open_refusal e)) n
  opens_err e o = record {
    done = tt;
    cause = cause_of e o;
    only = o.only;
    told = λ tests held v told st. record { at = not_opened e o tests held v told st; gets = few (Err e) o tests held v told st };
  }

-- memory is wanting before the tree is opened
pub opens_none : (h : List ℕ → List ℕ) (rows : List Row) (hop : Hop) (path : List (List ℕ)) (m : Moment) → OpensLast h rows hop path m (Err N.Memory) m
opens_none h rows hop path m = record {
  done = tt;
  cause = tt;
  only = record { later = Later-refl m; blocks = refl; given = refl; puts = refl };
  told = λ tests held v told st. record { at = tt; gets = omega arith };
}
