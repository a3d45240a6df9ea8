-- A flush along the places of a document's value is the commit.
use Rattle.std.proofs.Common.{◌≡◌, ℕ, List, Result, sym, ap, ◌∙◌, subst}
use Rattle.ild_data.specs.Spell.{id_of}
use Rattle.ild_dirty.specs.Beneath as B
use Rattle.ild_dirty.specs.Beneath.{AgreesWith, IsTreeAt}
use Rattle.ild_dirty.specs.Flush.{Asks, Flushes}
use Rattle.ild_dirty.specs.declared.fault.FlushFault.{FlushFault}
use Rattle.ild_edges.specs.Store.{Moment}
use Rattle.ild_script_batch.specs.Commits.{CarriedAgree, FlushesCommit, IsTreeOf}
use Rattle.ild_view_doc.specs.Docs.{block_in}
use Rattle.ild_view_doc.specs.declared.doc.Doc.{Doc}
use Rattle.ild_run_standing.specs.Standing.{setting_of}
use Rattle.ild_run_commit.specs.Commits.{Commits}
use Rattle.ild_run_commit.specs.Places.{HasTree, HaveTrees}

abbrev pub FlushesEach : (ℕ → List ℕ → List (List ℕ × ℕ)) → List ℕ → ℕ → List (List ℕ) → Moment → Result (Unit {0}) FlushFault → Moment → Type 0
FlushesEach children root kind own m result n = (t : B.Place) → IsTreeAt children root kind t → AgreesWith own (B.blocks_in t) → Flushes own children t m result n

commits_at : CarriedAgree → FlushesCommit → (d : Doc) (kind : ℕ) (children : ℕ → List ℕ → List (List ℕ × ℕ)) (root : List ℕ) (own : List (List ℕ)) (m n : Moment) (result : Result (Unit {0}) FlushFault)
    → root ≡ id_of (block_in d) → FlushesEach children root kind own m result n → Asks own m result n → HaveTrees id_of d kind children → Commits id_of d own m result n
commits_at agree commit d kind children root own m n result is each asks trees = record {
  later = asks.later;
  failed = asks.failed;
  clashed = asks.clashed;
  replies = λ tests v kept owed are at most c.
      let x : HasTree id_of d kind children v at.tree = trees v at.tree at.storable in
      let of : IsTreeOf (setting_of id_of d tests) v x.home = record { tree = at.tree; represented = at.storable.tree; places = x.places } in
      let here : IsTreeAt children root kind x.home = subst (λ (i : List ℕ). IsTreeAt children i kind x.home) (sym (is ∙ ap id_of at.block)) x.stands in
      commit (setting_of id_of d tests) children v kept owed own x.home m result n most c of x.stands.tree (each x.home here (agree (setting_of id_of d tests) v kept owed own x.home m at.told c of)) asks;
}

-- what the batch was, by the references of which it was made, and what these hold at its end
pub commits_along : CarriedAgree → FlushesCommit → (d : Doc) (kind : ℕ) (children : ℕ → List ℕ → List (List ℕ × ℕ)) (root : List ℕ) (own ob : List (List ℕ)) (m mb n nb : Moment) (result : Result (Unit {0}) FlushFault)
    → mb ≡ m → ob ≡ own → n ≡ nb → root ≡ id_of (block_in d) → FlushesEach children root kind ob mb result nb → Asks ob mb result nb → HaveTrees id_of d kind children → Commits id_of d own m result n
commits_along agree commit d kind children root own ob m mb n nb result em eo en is each asks trees =
    subst (λ (k : Moment). Commits id_of d own k result n) em
    (subst (λ (bs : List (List ℕ)). Commits id_of d bs mb result n) eo (subst (λ (k : Moment). Commits id_of d ob mb result k) (sym en) (commits_at agree commit d kind children root ob mb nb result is each asks trees)))
