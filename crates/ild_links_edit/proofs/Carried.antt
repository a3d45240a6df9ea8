-- A root carried up by the trees over a store, with the names that a call has for the document and the moments.
use Rattle.std.proofs.Common.{◌≡◌, ℕ, List, Result, Ok, Err, refl, sym, subst}
use Rattle.ild_data.specs.Spell.{id_of}
use Rattle.ild_data.specs.declared.id.BlockId.{BlockId}
use Rattle.ild_edges.specs.Count.{Rose}
use Rattle.ild_edges.specs.Store.{Moment}
use Rattle.ild_links.specs.Carries.{Carries}
use Rattle.ild_links.specs.declared.error.TreeErr.{TreeErr}
use Rattle.ild_links.specs.declared.error.TreeErr.TheVariants as E
use Rattle.ild_links.specs.declared.hop.Hop.{Hop}
use Rattle.ild_links_edit.specs.inside.Raises.{Raises, refused_as}
use Rattle.ild_links_lines.specs.Walks.{trees_of}
use Rattle.ild_run_links.proofs.Stopped.{later_store}
use Rattle.ild_run_links.specs.Moments.{with_lacks}
use Rattle.ild_run_links.specs.Trees.{Storable, trees}
use Rattle.ild_script.specs.declared.reply.No.TheVariants as N
use Rattle.ild_view_doc.specs.declared.doc.Doc.{Doc}

module _ (path : List (List ℕ)) (hops : List Hop) (new : List ℕ) (k l : ℕ) where
  abbrev pub CarriesFrom : Doc → Moment → Result BlockId TreeErr → Moment → Type 0
  CarriesFrom d m r n = Carries (Storable (trees_of id_of d)) (trees (trees_of id_of d)) (with_lacks m k) path hops new r (with_lacks n l)

  over_doc : (d e : Doc) (m x n y : Moment) (r : Result BlockId TreeErr) → e ≡ d → x ≡ m → n ≡ y → CarriesFrom e x r y → CarriesFrom d m r n
  over_doc d e m x n y r same begin end c =
      subst (λ (z : Moment). CarriesFrom d m r z) (sym end) (subst (λ (z : Moment). CarriesFrom d z r y) begin (subst (λ (z : Doc). CarriesFrom z x r y) same c))

  store_failed : (d : Doc) (m n : Moment) (err : TreeErr) → CarriesFrom d m (Err err) n → refused_as (Err err) ≡ Err N.Store → Rose m.faults n.faults
  store_failed d m n (E.Block j) c is = absurd (cc is)
  store_failed d m n E.Store c is = c.answer
  store_failed d m n (E.Clash j kept block) c is = absurd (cc is)
  store_failed d m n E.Memory c is = absurd (cc is)

  failed : (d : Doc) (m n : Moment) (r : Result BlockId TreeErr) → CarriesFrom d m r n → refused_as r ≡ Err N.Store → Rose m.faults n.faults
  failed d m n (Ok root) c is = absurd (cc is)
  failed d m n (Err err) c is = store_failed d m n err c is

  pub raises : (d e : Doc) (m x n y : Moment) (r : Result BlockId TreeErr) → e ≡ d → x ≡ m → n ≡ y → CarriesFrom e x r y → Raises (trees_of id_of d) path hops new m (refused_as r) n
  raises d e m x n y r same begin end c =
      let own = over_doc d e m x n y r same begin end c in record {
        later = later_store m n k l own.later;
        failed = failed d m n r own;
        answer = r;
        is = refl;
        before = k;
        lacks = l;
        carries = own;
      }
