use Rattle.std.proofs.Common.{◌≤◌, List, Err, IsSome, length, true≢false, sym, subst, ◌∙◌}
use Rattle.std.specs.List.{AllByRecursion}
use Rattle.std.specs.Prelude.{option_and_then}
use Rattle.ild_data.specs.Limits.{longest_block}
use Rattle.ild_data.specs.Spell.{id_of}
use Rattle.ild_edges.proofs.Later.{Later-trans}
use Rattle.ild_path.specs.Replaces.{IsPlaceOf}
use Rattle.ild_path_place.specs.Places.{IsPlace}
use Rattle.ild_path_place.specs.Rooted.{IsRootedAt}
use Rattle.ild_path_place.specs.declared.verb.Verb.TheVariants as V
use Rattle.ild_run_links.specs.Links.{link_to}
use Rattle.ild_run_links.specs.Trees.{blocks_in}
use Rattle.ild_schema.specs.declared.row.Row.{Row}
use Rattle.ild_typed.specs.At.{InSlot, at}
use Rattle.ild_path_place.specs.declared.place.Place.{Place}
use Rattle.ild_run_links.proofs.Setting.{causes_on, fails_as, set_on, sized, unplaced}
use Rattle.ild_run_links.specs.declared.fault.TreeFault.{TreeFault}
use Rattle.ild_run_links.specs.inside.Sets.{Causes, SetsThere}
use Rattle.ild_schema.specs.Slots.{plainly}
use Rattle.ild_typed.specs.Schema.{IsSchema}
use Rattle.ild_view_doc.specs.Docs.{block_in, table_in, type_in}
use Rattle.ild_run_links.proofs.relinking.relink_in.Goals as goal

pub returns-in-Err : goal.returns-in-Err
returns-in-Err g c =
    let h = g.H.KeyHash.hash_of in
    let doc = c.args.doc.now in
    let m = g.K.Store.moment c.args.store.now in
    let k = g.K.Store.moment c.locate.new.store in
    let e = c.in-Err.fault in
    let schema = subst IsSchema c.schema.ensures (record { table = c.recall.ensures.table; accepted = c.recall.ensures.accepted }) in
    record {
      later = c.in-Err.ensures.only.later;
      cause = subst (λ (x : TreeFault). Causes m (Err x) k) (sym c.of_path.ensures) (fails_as Place m k e c.in-Err.ensures.failed);
      told = λ was v told own st some. subst (λ (x : TreeFault). SetsThere h (table_in doc) (type_in doc) v c.args.path.now c.args.new.now.0 m (Err x) k) (sym c.of_path.ensures)
          (unplaced h (table_in doc) schema was (type_in doc) v c.args.path.now c.args.new.now.0 m k c.in-Err.ensures.only some e (c.in-Err.ensures.stands was v told own st));
    }

pub returns-then-not-has_link : goal.returns-then-not-has_link
returns-then-not-has_link g c =
    let h = g.H.KeyHash.hash_of in
    let doc = c.args.doc.now in
    let place = c.in-Ok.place in
    let table = c.in-Ok.ensures.of.table in
    record {
      later = c.in-Ok.ensures.only.later;
      cause = tt;
      told = λ was v told own st some.
          let p : InSlot = (plainly (type_in doc), v) in
          let at_place = c.in-Ok.ensures.stands was v told own st in
          let rooted = c.in-Ok.ensures.rooted was v told own st in
          let has = c.has_link.ensures h was p c.args.path.now (subst (λ (r : List Row). IsRootedAt h r was p place) (sym table) rooted) (subst (λ (r : List Row). IsPlace h r was p c.args.path.now V.Set place) (sym table) at_place.answer)
          (subst (λ (r : List Row). IsSome (option_and_then (link_to r) (at r p c.args.path.now))) (sym table) some) in
          absurd (true≢false (sym has ∙ c.if-not-has_link.true));
    }

pub returns : goal.returns
returns g c =
    let h = g.H.KeyHash.hash_of in
    let doc = c.args.doc.now in
    let rows = table_in doc in
    let place = c.in-Ok.place in
    let table = c.in-Ok.ensures.of.table in
    let m = g.K.Store.moment c.args.store.now in
    let k = g.K.Store.moment c.locate.new.store in
    let o = g.K.Store.moment c.put_link.new.store in
    let put = c.put_link.ensures in
    record {
      later = Later-trans m k o c.in-Ok.ensures.only.later put.later;
      cause = causes_on m k o c.put_link.result c.in-Ok.ensures.only.later put.cause;
      told = λ was v told own st some.
          let p : InSlot = (plainly (type_in doc), v) in
          let at_place = c.in-Ok.ensures.stands was v told own st in
          let rooted = c.in-Ok.ensures.rooted was v told own st in
          let is = subst (λ (r : List Row). IsPlaceOf h r was (type_in doc) v c.args.path.now V.Set place) (sym table) (record { rooted = rooted; is = at_place.answer }) in
          let there = put.told was (type_in doc) v c.args.path.now (c.in-Ok.ensures.only.blocks ∙ told) is (subst (λ (r : List Row). IsSome (option_and_then (link_to r) (at r p c.args.path.now))) (sym table) some)
          (subst (λ (r : List Row). AllByRecursion (λ b. length b ≤ longest_block) (blocks_in h r (type_in doc) v)) (sym table) (sized h rows was (type_in doc) (id_of (block_in doc)) v st)) in
          set_on h rows (type_in doc) v c.args.path.now c.args.new.now.0 m k o c.put_link.result c.in-Ok.ensures.only at_place.gets put.gets
          (subst (λ (r : List Row). SetsThere h r (type_in doc) v c.args.path.now c.args.new.now.0 k c.put_link.result o) table there);
    }
