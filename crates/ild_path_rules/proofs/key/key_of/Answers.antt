use Rattle.std.proofs.Common.{sym, ap}
use Rattle.ild_path_rules.proofs.Allowing.{element_key, entry_key}
use Rattle.ild_path_rules.specs.Form.{key_in}
use Rattle.ild_path_rules.proofs.key.key_of.Goals as goal

pub returns-in-Entries : goal.returns-in-Entries
returns-in-Entries c = record {
  is = λ f x. entry_key _ _ _ (c.in-Entries.ensures.is f x);
  within = c.in-Entries.ensures.within;
}

pub returns-in-Fields : goal.returns-in-Fields
returns-in-Fields c = record { is = λ f x. ap key_in (sym (c.in-Fields.ensures.is f x).is); within = tt }

pub returns-in-Member : goal.returns-in-Member
returns-in-Member c = record { is = λ f x. ap key_in (sym (c.in-Member.ensures.is f x).is); within = tt }

pub returns-in-Elements : goal.returns-in-Elements
returns-in-Elements c = record { is = λ f x. element_key _ _ (c.in-Elements.ensures.is f x); within = tt }

pub returns-in-Nothing : goal.returns-in-Nothing
returns-in-Nothing c = record { is = λ f x. ap key_in (sym (c.in-Nothing.ensures.is f x).1); within = tt }
