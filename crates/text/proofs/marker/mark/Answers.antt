-- `text::marker::mark` meets its contract. Assumes nothing.
use Rattle.lines.proofs.WordLaws.{text_justified}
use Rattle.text.specs.Marking.{marked_text}
use Rattle.text.proofs.marker.mark.Goals as goal

pub returns : goal.returns
unfolding marked_text
returns c = let p = c.print.ensures in
    rw (← c.judge_bytes-judgement.ensures.value) (record { value = p.value; buffer = p.buffer; code = p.code; bytes_len_bound = p.j_len_bound; text_justified = text_justified _ _ _ c.judge_bytes-judgement.ensures.justified })
