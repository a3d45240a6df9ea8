use Rattle.ild_open_read.proofs.reader.Reader.remembers.Goals as goal

pub returns : goal.returns
returns g c = record { bytes = c.spelling-bytes.result.now; tells = c.spelling-bytes.ensures; added = c.add.ensures.added; nodes = c.add.ensures.nodes }
