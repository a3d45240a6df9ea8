use Rattle.std.proofs.Common.{◌≡◌, ◌-◌, List, Some, None, length, slice_get, subst, sym}
use Rattle.ild_path_around.proofs.AtPlace.{told_at}
use Rattle.ild_path_around.proofs.around.in_block.Goals as goal
use Rattle.ild_path_hops.specs.declared.hop.Hop.{Hop}
use Rattle.ild_path_inward.proofs.Inwarding.{can_go}
use Rattle.ild_path_place.specs.Parts.{hops_in}
use Rattle.ild_path_place.specs.Tells.{root_at}
use Rattle.ild_typed_fronts.specs.Front.{front_in}
use Rattle.ild_view.specs.Parts.{IsPartView}

pub returns-in-Some : goal.returns-in-Some
returns-in-Some c = λ h rows was room q d w m is_key on keys free text made.
    let place = c.args.place.now in
    let hop = c.in-Some.hop.now in
    let last = subst (λ (gs : List Hop). Some hop ≡ slice_get gs (length gs - 1)) c.hops.ensures c.in-Some.ensures.value in
    let go = can_go h rows was room q d (root_at place) (hops_in place) on hop last c.view.result c.view.ensures.table c.view.ensures.slot c.view.ensures.front in
    told_at rows (front_in h rows q) c.view.result c.args.path.now c.args.edit c.breaks_delimiter.result go.stands c.breaks_delimiter.ensures is_key w m keys free text made

pub returns-in-None : goal.returns-in-None
returns-in-None c = λ h rows was room q d w m is_key on keys free text made.
    let none = subst (λ (gs : List Hop). None ≡ slice_get gs (length gs - 1)) c.hops.ensures c.in-None.ensures.value in
    told_at rows (front_in h rows q) c.root.result.now c.args.path.now c.args.edit c.breaks_delimiter-in-None.result (subst (IsPartView rows (front_in h rows q)) (sym c.root.ensures) (on.top none)) c.breaks_delimiter-in-None.ensures is_key w m keys free text made
