use Rattle.std.proofs.Common.{◌∙◌}
use Rattle.ild_path_rules.proofs.Forming.{list_inside, map_inside, no_piece, nothing_inside, piece_stands}
use Rattle.ild_view.specs.View.{slot_of, table_of}
use Rattle.ild_path_rules.proofs.form.any_form.Goals as goal

pub returns-in-Map-clause-is : goal.returns-in-Map-clause-is
returns-in-Map-clause-is c = λ t stands.
    let v = c.args.view.now in
    map_inside (table_of v) (slot_of v) t (c.in-Map.ensures (table_of v) t (piece_stands v c.in-Some.piece t c.in-Some.ensures stands))

pub returns-in-List-clause-is : goal.returns-in-List-clause-is
returns-in-List-clause-is c = λ t stands.
    let v = c.args.view.now in
    list_inside (table_of v) (slot_of v) t (c.in-List.ensures (table_of v) t (piece_stands v c.in-Some.piece t c.in-Some.ensures stands))

pub returns-in_default : goal.returns-in_default
returns-in_default c = record {
  is = λ t stands.
      let v = c.args.view.now in
      let kind = c.kind.ensures (table_of v) t (piece_stands v c.in-Some.piece t c.in-Some.ensures stands) in
      nothing_inside (table_of v) (slot_of v) t (λ e. c.in_default.not-Map (kind ∙ e)) (λ e. c.in_default.not-List (kind ∙ e));
  within = tt;
}

pub returns-in-None-clause-is : goal.returns-in-None-clause-is
returns-in-None-clause-is c = λ t stands. no_piece c.args.view.now t c.in-None.ensures stands
