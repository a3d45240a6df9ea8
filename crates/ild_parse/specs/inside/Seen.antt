-- What the readers say of one another: each gives what reading from left to right gives. No public call cites it.
use Rattle.std.specs.Prelude.{◌≡◌, ℕ, Result, Ok, Err}
use Rattle.ild_parse_grammar.proofs.Stream.{Stream, stream}
use Rattle.ild_parse.specs.declared.input.Input.{Input}
use Rattle.ild_parse.specs.declared.error.ParseErr.{ParseErr}
use Rattle.ild_parse.specs.declared.error.ParseErr.TheVariants as E

abbrev pub stream_of : Input → Stream
stream_of input = stream input.src.now input.rest.now

-- What a function returned, seen by view, is what reading gives, unless memory ran out.
abbrev pub Fails : {Y : Type 0} → ParseErr → Result Y ℕ → Type 0
Fails E.Memory read = Unit {0}
Fails (E.Syntax at) read = read ≡ Err at

abbrev pub Gives : {X Y : Type 0} → (X → Y) → Result X ParseErr → Result Y ℕ → Type 0
Gives view (Ok x) read = read ≡ Ok (view x)
Gives view (Err e) read = Fails e read
