-- What a line leaves of a session over a document by its reply, over every store: what stays, and why a block is blamed or clashes.
use Rattle.std.specs.Prelude.{◌≡◌, ◌⊎◌, ℕ, List, Option, Some}
use Rattle.ild_data.specs.Spell.{id_of}
use Rattle.ild_data.specs.declared.id.BlockId.{BlockId}
use Rattle.ild_edges.specs.Gained.{Collides}
use Rattle.ild_edges.specs.Store.{Moment}
use Rattle.ild_script.specs.Line.{reads}
use Rattle.ild_script.specs.declared.reply.No.{No}
use Rattle.ild_script.specs.declared.reply.No.TheVariants as N
use Rattle.ild_script.specs.declared.reply.Reply.{Reply}
use Rattle.ild_script.specs.declared.reply.Reply.TheVariants as R
use Rattle.ild_script_meaning.specs.Ask.{Tell, asked, to_tell}
use Rattle.ild_script_session.specs.Batch.{beside}
use Rattle.ild_view_doc.specs.Docs.{table_in, type_in, block_in}
use Rattle.ild_run_standing.specs.Blame.{HasClash, IsBroken}
use Rattle.ild_run_document.specs.Document.{begun_in, doc_in, own_in}
use Rattle.ild_run_document.specs.declared.document.Document.{Document}

-- the same block, inside the same batch or outside
pub record IsUnmoved (old new : Document) : Type 0 where
  pub block : block_in (doc_in new) ≡ block_in (doc_in old)
  pub begun : begun_in new ≡ begun_in old

-- A refusal and a read leave the block and the batch, and a root that is told is the block's. A block is blamed only where one is broken,
-- of what the store and the batch hold together. A clash is told only where a block of the batch's own collides with one that the store holds,
-- or another one with one that both hold together.
pub record Passes (old : Document) (m : Moment) (line : List ℕ) (reply : Option Reply) (n : Moment) (new : Document) : Type 0 where
  pub table : table_in (doc_in new) ≡ table_in (doc_in old)
  pub type : type_in (doc_in new) ≡ type_in (doc_in old)
  pub kept : (refusal : No) → reply ≡ Some (R.No refusal) → IsUnmoved old new
  pub told : (t : Tell) (path : List (List ℕ)) → asked (reads line) ≡ to_tell t path → IsUnmoved old new
  pub rooted : (id : BlockId) → reply ≡ Some (R.Root id) → id.0 ≡ id_of (block_in (doc_in new))
  pub blamed : reply ≡ Some (R.No N.Block) → IsBroken id_of (doc_in old) (beside (begun_in old) (own_in old) m).blocks m.lacks n.lacks
  pub clashed : reply ≡ Some (R.No N.Clash) → Collides n (own_in old) ⊎ HasClash (beside (begun_in new) (own_in new) n)
