-- The laws of where a document stands.
use Rattle.std.specs.Prelude.{◌≡◌, ◌⊎◌, ℕ, ◌+◌, ◌≤◌, List, Option, Some}
use Rattle.ild_data.specs.Spell.{id_of}
use Rattle.ild_edges.specs.Store.{Moment, Later, block_at}
use Rattle.ild_edges.specs.Told.{BothTold}
use Rattle.ild_schema.specs.Value.{Value}
use Rattle.ild_script.specs.declared.reply.Reply.{Reply}
use Rattle.ild_typed.specs.Stands.{Stands, bare}
use Rattle.ild_path_edits.specs.Judged.{Tests}
use Rattle.ild_script_session.specs.Session.{Due, idle, resting}
use Rattle.ild_script_session.specs.Step.{IsExcused, Replies}
use Rattle.ild_script_meaning.specs.Lines.{Setting, typed_lines}
use Rattle.ild_view_doc.specs.Docs.{table_in, type_in, block_in}
use Rattle.ild_view_doc.specs.declared.doc.Doc.{Doc}
use Rattle.ild_run_standing.specs.Answers.{PassesOn}
use Rattle.ild_run_standing.specs.Standing.{IsHeldAt}

-- where a value stands under the id of a document's block, and the block is held, the document stands at the value, and the store holds it
abbrev pub StandingAreAt : Type 0
StandingAreAt =
    (h : List ℕ → List ℕ) (d : Doc) (tests : Tests) (m : Moment) (held : List (List ℕ)) (v : Value) → m.blocks ≡ Some held → block_at held (id_of (block_in d)) ≡ Some (block_in d)
    → Stands bare (block_at held) h (table_in d) (type_in d) (id_of (block_in d)) v → IsHeldAt h d tests m v

-- and the other way
abbrev pub HeldAreStanding : Type 0
HeldAreStanding =
    (h : List ℕ → List ℕ) (d : Doc) (tests : Tests) (m : Moment) (held : List (List ℕ)) (v : Value) → m.blocks ≡ Some held
    → IsHeldAt h d tests m v → Stands bare (block_at held) h (table_in d) (type_in d) (id_of (block_in d)) v

-- what is replied where the store holds what it held, outside a batch, and the value stays
abbrev pub StillReplies : Type 0
StillReplies =
    (w : Setting) (m n : Moment) (v : Value) (d : Due Value) (reply : Option Reply) → Later m n → n.blocks ≡ m.blocks → n.gets ≤ m.gets + d.gets → n.puts ≤ m.puts + d.puts
    → ((reply ≡ d.reply) × (idle v ≡ d.next)) ⊎ IsExcused m d.adds reply n n → Replies (typed_lines w) m (resting v) d reply n (resting v)

-- a value that stays passes on what is carried of it
abbrev pub ValuesPassOn : Type 0
ValuesPassOn = (w : Setting) (m n : Moment) (v : Value) → Later m n → BothTold m.given n.given (λ was now. PassesOn w now v v)
