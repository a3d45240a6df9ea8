-- The blocks that an input is the list of.
use Rattle.std.proofs.Common.{◌≡◌, ◌<◌, ℕ, zero, suc, List, [], ◌∷◌, length, map, Result, Ok, Err, refl, sym, ap, ◌∙◌, arith}
use Rattle.std.specs.Prelude.{get_or}
use Rattle.ild_data.proofs.Lists.{items_by_list, items_list-items_of}
use Rattle.ild_data.specs.Data.{Data, null, boolean, integer, text, bytes, list, map as map_of, link, Items, no_items, item, items_of, items_list}
use Rattle.ild_data.specs.Seen.{data_of}
use Rattle.ild_data.specs.declared.tree.Tree.{Tree}
use Rattle.ild_data.specs.declared.tree.Tree.TheVariants as T
use Rattle.ild_json.specs.declared.error.JsonErr.{JsonErr}
use Rattle.ild_run_verify.specs.Proof.{IsProof, blocks_data}
use Rattle.ild_run_verify.specs.inside.Read.{ReadsItems, ReadsList}
use Rattle.ild_run_verify.specs.declared.fault.VerifyFault.{VerifyFault}
use Rattle.ild_run_verify.specs.declared.fault.VerifyFault.TheVariants as F

-- ---- one input is one list of blocks

abbrev block_of : Data → List ℕ
block_of null = []
block_of (boolean b) = []
block_of (integer n) = []
block_of (text s) = []
block_of (bytes s) = s
block_of (list ds) = []
block_of (map_of ms) = []
block_of (link s) = []

abbrev items_blocks : Items → List (List ℕ)
items_blocks no_items = []
items_blocks (item d ds) = block_of d ∷ items_blocks ds

abbrev data_blocks : Data → List (List ℕ)
data_blocks null = []
data_blocks (boolean b) = []
data_blocks (integer n) = []
data_blocks (text s) = []
data_blocks (bytes s) = []
data_blocks (list ds) = items_blocks ds
data_blocks (map_of ms) = []
data_blocks (link s) = []

abbrev read_blocks : Result Data JsonErr → List (List ℕ)
read_blocks (Ok d) = data_blocks d
read_blocks (Err e) = []

back : (bs : List (List ℕ)) → items_blocks (items_of (map bytes bs)) ≡ bs
back [] = refl
back (b ∷ bs) = ap (λ xs. b ∷ xs) (back bs)

pub one_proof : (input : List ℕ) (bs cs : List (List ℕ)) → IsProof input bs → IsProof input cs → bs ≡ cs
one_proof input bs cs one two =
    let same : read_blocks (Ok (blocks_data bs)) ≡ read_blocks (Ok (blocks_data cs)) = ap read_blocks (sym one ∙ two) in
    sym (back bs) ∙ same ∙ back cs

-- ---- items that are blocks, and one that isn't

is_bytes : (t : Tree) (b : List ℕ) → data_of t ≡ bytes b → ((x : List ℕ) → t ≡ T.Bytes x → ⊥) → ⊥
is_bytes T.Null b is other = absurd cc
is_bytes (T.Bool x) b is other = absurd cc
is_bytes (T.Int x) b is other = absurd cc
is_bytes (T.Text x) b is other = absurd cc
is_bytes (T.Bytes x) b is other = other x refl
is_bytes (T.List x) b is other = absurd cc
is_bytes (T.Map x) b is other = absurd cc
is_bytes (T.Link x) b is other = absurd cc

pub no_blocks : (ts : List Tree) (i : ℕ) (t d : Tree) → t ≡ get_or ts i d → i < length ts → ((x : List ℕ) → t ≡ T.Bytes x → ⊥) → (bs : List (List ℕ)) → map data_of ts ≡ map bytes bs → ⊥
no_blocks [] i t d is lt other bs same = absurd (omega (arith, lt))
no_blocks (x ∷ ts) i t d is lt other [] same = absurd cc
no_blocks (x ∷ ts) zero t d is lt other (b ∷ bs) same = is_bytes t b (ap data_of is ∙ first) other where
  first : data_of x ≡ bytes b
  first = cc
no_blocks (x ∷ ts) (suc i) t d is lt other (b ∷ bs) same = no_blocks ts i t d is (omega (arith, lt)) other bs rest where
  rest : map data_of ts ≡ map bytes bs
  rest = cc

-- data are a list of blocks where their items are those blocks
pub list_of : (ds : Items) (bs : List (List ℕ)) → items_list ds ≡ map bytes bs → list ds ≡ blocks_data bs
list_of ds bs same = ap list (items_by_list ds (map bytes bs) same)

pub items_in : (ds : Items) (bs : List (List ℕ)) → list ds ≡ blocks_data bs → items_list ds ≡ map bytes bs
items_in ds bs same =
    let one : ds ≡ items_of (map bytes bs) = cc in
    ap items_list one ∙ items_list-items_of (map bytes bs)

pub reads_list : (ds : Items) (items : List Data) (result : Result (List (List ℕ)) VerifyFault) → items ≡ items_list ds → ReadsItems items result → ReadsList (list ds) result
reads_list ds items (Ok bs) same read = list_of ds bs (sym same ∙ read)
reads_list ds items (Err F.Proof) same none = λ bs is. none bs (same ∙ items_in ds bs is)
reads_list ds items (Err F.Memory) same read = tt
reads_list ds items (Err (F.Cut cut)) same read = absurd read
