use Rattle.std.proofs.Common.{◌≡◌, arith, refl, subst}
use Rattle.std.specs.Prelude.{IfOk}
use Rattle.ild_view.proofs.Indexing.{segment_at}
use Rattle.ild_path_delimiter.proofs.Making.{got_one, held_less, there_less}
use Rattle.ild_path_delimiter.specs.inside.Levels.{LevelIs}
use Rattle.ild_path_edit.proofs.Viewing.{segment_is}
use Rattle.ild_path_item.specs.Texts.{borrowed_text}
use Rattle.ild_view.specs.Parts.{IsPartView}
use Rattle.ild_path_delimiter.proofs.level.level_of.Goals as goal
use Rattle.ild_path_delimiter.proofs.level.level_of.Goals.{else-k-views-via-then-k-views+else-k-segments, else-k-views-via-else-k-views}

pub returns-then-k-segments : goal.returns-then-k-segments
returns-then-k-segments c = λ rows q s view there holds.
    let x = segment_at c.args.segments.now c.args.segments.now c.args.k c.as_str.result.now c.index-segments-k.result c.as_str.ensures.same c.index-segments-k.is refl in
    let name : c.as_str.result.now ≡ s = segment_is c.args.segments.now c.args.k c.as_str.result.now s there x in
    let is = got_one (IsPartView rows q) c.args.views.now c.args.k c.index-views-k.result view c.index-views-k.is in
    subst (λ y. IfOk c.made.result (LevelIs rows q y (borrowed_text c.args.new))) name (c.made.ensures rows q is holds)

pub returns-else-k-views : goal.returns-else-k-views
returns-else-k-views c = λ rows q s view there holds.
    let less = held_less (IsPartView rows q) c.args.views.now c.args.k view in
    let more = there_less c.args.segments.now c.args.k s there in
    elim c.else-k-views.branch [
      | else-k-views-via-then-k-views+else-k-segments x ↦ absurd (omega (arith, more, x.if-k-segments.false))
      | else-k-views-via-else-k-views x ↦ absurd (omega (arith, less, x.if-k-views.false))
    ]
