use Rattle.std.proofs.Common.{◌+◌, List, length, ap, sym, subst, ◌∙◌}
use Rattle.ild_path_hops.specs.declared.hop.Hop.{Hop}
use Rattle.ild_path_inward.specs.Inwards.{CanGoOn}
use Rattle.ild_path_inward.specs.Levels.{IsUnder}
use Rattle.std.specs.List.{All}
use Rattle.ild_run_links.proofs.Ending.{placed_by, some_left}
use Rattle.ild_view.specs.View.{table_of}
use Rattle.ild_run_links.proofs.stopping.stop_inward.Goals as goal

pub returns : goal.returns
returns c =
    let root = c.args.root.now in
    let r = c.args.inward.now in
    let under = subst (λ (hs : List Hop). All (IsUnder (table_of root)) hs) (sym c.deref.ensures.value) c.requires.under in
    record {
      placed = λ path many. placed_by (length (table_of root)) path c.args.from c.args.count (length r.left.now) c.saturating_sub.result c.link_behind.result c.stop_at.result c.stop_at.ensures (c.link_behind.ensures.within under) many c.requires.some
          c.if-left-eq0.false c.saturating_sub.ensures;
      place = ap (λ n. c.args.from + n) c.saturating_sub.ensures;
      ended = λ none. absurd (some_left r.left.now c.if-left-eq0.false none);
      link = λ h was room q holder t on inside there some.
          c.stop_at.ensures ∙ c.link_behind.ensures.told h was room q holder t (subst (λ (hs : List Hop). CanGoOn h (table_of root) was room q t root hs) (sym c.deref.ensures.value) on) inside there;
    }
