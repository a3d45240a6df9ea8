use Rattle.std.proofs.Common.{length, sym, subst}
use Rattle.ild_path_rules.proofs.Forming.{Is, any_form, entries_form, list_form, map_within, null_form, other_form, struct_form, union_form}
use Rattle.ild_path_rules.specs.Form.{KeyWithin}
use Rattle.ild_view.specs.View.{table_of}
use Rattle.ild_path_rules.proofs.form.form_of_view.Goals as goal

pub returns-then-is_null : goal.returns-then-is_null
returns-then-is_null c = record { is = λ f x. null_form c.args.view.now f x c.is_null.result c.if-is_null.true (c.is_null.ensures f x); within = tt }

pub returns-in-List : goal.returns-in-List
returns-in-List c = record {
  is = λ f x. list_form c.args.view.now f x c.is_null.result c.if-is_null.false (c.is_null.ensures f x) c.def_of.result.now c.def_of.ensures.same c.in-List.elem c.in-List.at c.in-List.is;
  within = tt;
}

pub returns-in-Map : goal.returns-in-Map
returns-in-Map c = record {
  is = λ f x.
      subst (Is c.args.view.now f x) (sym c.map_form.ensures)
      (entries_form c.args.view.now f x c.is_null.result c.if-is_null.false (c.is_null.ensures f x) c.def_of.result.now c.def_of.ensures.same c.in-Map.key c.in-Map.key_at c.in-Map.value c.in-Map.at c.in-Map.form c.in-Map.is);
  within = subst (KeyWithin (length (table_of c.args.view.now))) (sym c.map_form.ensures)
      (map_within (length (table_of c.args.view.now)) c.def_of.result.now c.in-Map.key c.in-Map.key_at c.in-Map.value c.in-Map.at c.in-Map.form c.in-Map.is c.def_of.ensures.within);
}

pub returns-in-Struct : goal.returns-in-Struct
returns-in-Struct c = record {
  is = λ f x. struct_form c.args.view.now f x c.is_null.result c.if-is_null.false (c.is_null.ensures f x) c.def_of.result.now c.def_of.ensures.same c.in-Struct.def c.in-Struct.is;
  within = tt;
}

pub returns-in-Union : goal.returns-in-Union
returns-in-Union c = record {
  is = λ f x. union_form c.args.view.now f x c.is_null.result c.if-is_null.false (c.is_null.ensures f x) c.def_of.result.now c.def_of.ensures.same c.in-Union.def c.in-Union.is;
  within = tt;
}

pub returns-in-Any : goal.returns-in-Any
returns-in-Any c = record {
  is = λ f x. any_form c.args.view.now f x c.is_null.result c.if-is_null.false (c.is_null.ensures f x) c.def_of.result.now c.def_of.ensures.same c.in-Any.is c.any_form.result c.any_form.ensures.is;
  within = c.any_form.ensures.within;
}

pub returns-in_default : goal.returns-in_default
returns-in_default c = record {
  is = λ f x. other_form c.args.view.now f x c.is_null.result c.if-is_null.false (c.is_null.ensures f x) c.def_of.result.now c.def_of.ensures.same c.in_default.not-Any c.in_default.not-List c.in_default.not-Map c.in_default.not-Struct c.in_default.not-Union;
  within = tt;
}
