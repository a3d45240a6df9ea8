-- The lines of a summary, written whole or cut off.
use Rattle.std.proofs.Common.{ℕ, List, ◌++◌, Option, Result, Ok, Err}
use Rattle.std.specs.Prelude.{OnErr, codes}
use Rattle.ild_edges.proofs.Written.{front_more, front_then}
use Rattle.ild_edges.specs.Sink.{Appends, AppendsFront}
use Rattle.ild_run_generate.specs.Text.{count_line, counts_text, summary_text}
use Rattle.ild_run_generate.specs.declared.summary.Summary.{Summary}
use Rattle.ild_script.specs.Reply.{reply_text}
use Rattle.ild_script.specs.declared.reply.Reply.TheVariants as R

on_err_always : {T E : Type 0} (r : Result T E) (P : Type 0) → P → OnErr r P
on_err_always (Ok x) P p = tt
on_err_always (Err e) P p = p

on_err_map : {T E : Type 0} (r : Result T E) (P Q : Type 0) → (P → Q) → OnErr r P → OnErr r Q
on_err_map (Ok x) P Q f p = tt
on_err_map (Err e) P Q f p = f p

module _ (s : Summary) where
  abbrev sets : List ℕ
  sets = count_line (codes "sets ") s.sets

  abbrev dels : List ℕ
  dels = count_line (codes "dels ") s.dels

  abbrev absent : List ℕ
  absent = count_line (codes "absent ") s.absent

  abbrev len : List ℕ
  len = count_line (codes "len ") s.len

  pub cut_first : (a b : Option (List ℕ)) → AppendsFront a b sets → AppendsFront a b (counts_text s)
  cut_first a b front = front_more a b sets (dels ++ (absent ++ len)) front

  pub cut_second : (a b c : Option (List ℕ)) → Appends a b sets → AppendsFront b c dels → AppendsFront a c (counts_text s)
  cut_second a b c one front = front_then a b c sets (dels ++ (absent ++ len)) one (front_more b c dels (absent ++ len) front)

  pub cut_third : (a b c d : Option (List ℕ)) → Appends a b sets → Appends b c dels → AppendsFront c d absent → AppendsFront a d (counts_text s)
  cut_third a b c d one two front = front_then a b d sets (dels ++ (absent ++ len)) one (front_then b c d dels (absent ++ len) two (front_more c d absent len front))

  pub cut_fourth : (a b c d e : Option (List ℕ)) → Appends a b sets → Appends b c dels → Appends c d absent → {T E : Type 0} (r : Result T E) → OnErr r (AppendsFront d e len) → OnErr r (AppendsFront a e (counts_text s))
  cut_fourth a b c d e one two three r front =
      on_err_map r (AppendsFront d e len) (AppendsFront a e (counts_text s))
      (λ f. front_then a b e sets (dels ++ (absent ++ len)) one (front_then b c e dels (absent ++ len) two (front_then c d e absent len three f))) front

  pub cut_counts : (a b : Option (List ℕ)) {T E : Type 0} (r : Result T E) → AppendsFront a b (counts_text s) → OnErr r (AppendsFront a b (summary_text s))
  cut_counts a b r front = on_err_always r (AppendsFront a b (summary_text s)) (front_more a b (counts_text s) (reply_text (R.Root s.root)) front)
