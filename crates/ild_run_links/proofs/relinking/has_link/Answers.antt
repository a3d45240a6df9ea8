use Rattle.std.proofs.Common.{IsSome, sym, subst, ◌∙◌}
use Rattle.std.proofs.lemmas.Option.{none-some, same_Some}
use Rattle.std.specs.Prelude.{option_and_then}
use Rattle.ild_path_place.specs.Parts.{end_in, hops_in}
use Rattle.ild_path_place.specs.Tells.{root_at, table_at}
use Rattle.ild_path_place.specs.Viewing.{ViewsPart}
use Rattle.ild_path_place.specs.declared.verb.Verb.{Verb}
use Rattle.ild_run_links.proofs.Found.{found_there, shows_link}
use Rattle.ild_run_links.proofs.Setting.{link_part}
use Rattle.ild_run_links.specs.Links.{link_to}
use Rattle.ild_typed.specs.At.{at}
use Rattle.ild_typed_fronts.specs.Front.{front_in}
use Rattle.ild_view.specs.Parts.{IsPartView}
use Rattle.ild_view.specs.declared.view.View.{View}
use Rattle.ild_run_links.proofs.relinking.has_link.Goals as goal

pub returns-in-Some : goal.returns-in-Some
returns-in-Some c = λ h was p path rooted is some.
    let place = c.args.place.now in
    let rows = table_at place in
    let q = link_part rows (at rows p path) some in
    let shown = subst (λ (verb : Verb). ViewsPart (root_at place) (hops_in place) verb (end_in place) c.view.result) is.verb_is c.view.ensures in
    let found = found_there h rows was p path place rooted is q.0 q.1 c.view.result shown in
    let same = same_Some found.view c.in-Some.view (sym found.is ∙ c.in-Some.is) in
    c.is_some.ensures ∙ shows_link h rows q.0 c.in-Some.view c.typed_link.result (subst (λ o. IsSome (option_and_then (link_to rows) o)) q.1 some)
    (subst (λ (w : View). IsPartView rows (front_in h rows q.0) w) same found.shows) c.typed_link.ensures.same

pub returns-in-None : goal.returns-in-None
returns-in-None c = λ h was p path rooted is some.
    let place = c.args.place.now in
    let rows = table_at place in
    let q = link_part rows (at rows p path) some in
    let shown = subst (λ (verb : Verb). ViewsPart (root_at place) (hops_in place) verb (end_in place) c.view.result) is.verb_is c.view.ensures in
    let found = found_there h rows was p path place rooted is q.0 q.1 c.view.result shown in
    absurd (none-some found.view (sym c.in-None.is ∙ found.is))
