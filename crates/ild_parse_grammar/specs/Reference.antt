-- References to types (IPLD Schemas, the DSL), and how deep their inline types nest.
use Rattle.std.specs.Prelude.{ℕ, Bool}
use Rattle.ild_parse_grammar.specs.declared.ast.TypeName.{TypeName}

mutual
  -- the place of the first token, whether `nullable` stands there, the place of the type's first token, and the type
  pub data Reference : Type 0 where
    refer : ℕ → Bool → ℕ → Refers → Reference

  pub data Refers : Type 0 where
    named : TypeName → Refers
    link : TypeName → Refers
    list : Reference → Refers
    map : TypeName → Reference → Refers
