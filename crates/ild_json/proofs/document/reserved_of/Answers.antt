use Rattle.std.proofs.Common.{sym}
use Rattle.ild_json.proofs.Documents.{link_some, bytes_some}
use Rattle.ild_json.proofs.document.reserved_of.Goals as goal

pub returns-in-String : goal.returns-in-String
returns-in-String c = link_some c.link.result c.ok.result c.args.value.now c.in-String.text c.ok.ensures.value c.in-String.is c.link.ensures.ok

pub returns-in_ok-as_str-in-Object : goal.returns-in_ok-as_str-in-Object
returns-in_ok-as_str-in-Object c =
    bytes_some c.bytes.result c.ok-in-Object.result c.args.value.now c.in_ok-only_value-in-Object.field-0.now c.in-Object.members c.in_ok-as_str-in-Object.field-0.now c.ok-in-Object.ensures.value c.in-Object.is
    c.in_ok-only_value-in-Object.ensures (sym c.in_ok-as_str-in-Object.ensures) c.bytes.ensures.ok
