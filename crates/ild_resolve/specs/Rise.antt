-- In the tree of a text, events stand in the order of the text: the first of them is the first in the text.
use Rattle.std.specs.Prelude.{ℕ, ◌≤◌, List, [], ◌∷◌}
use Rattle.ild_lex.specs.declared.token.Token.{Token}
use Rattle.ild_lex.specs.Lex.{AreTokens}
use Rattle.ild_parse_grammar.specs.declared.ast.Ast.{Ast}
use Rattle.ild_parse_grammar.specs.DerivePart.{Derives}
use Rattle.ild_resolve.specs.Events.{Event, declares, begins, uses, advances, floats, part, events_of}

-- the place at which it stands
abbrev pub place_in : Event → ℕ
place_in (declares t) = t.at
place_in (begins at) = at
place_in (uses t) = t.at
place_in (advances t) = t.at
place_in (floats at) = at
place_in (part at before) = at

-- none stands before this place, nor before the one in front of it
abbrev pub RiseFrom : ℕ → List Event → Type 0
RiseFrom at [] = Unit {0}
RiseFrom at (e ∷ es) = (at ≤ place_in e) × RiseFrom (place_in e) es

abbrev pub EventsRise : Type 0
EventsRise = (src : List ℕ) (tokens : List Token) (ast : Ast) → AreTokens src tokens → Derives src tokens ast → RiseFrom 0 (events_of ast)
