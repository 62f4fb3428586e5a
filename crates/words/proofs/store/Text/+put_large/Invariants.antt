-- n falls at each call.
use Rattle.words.proofs.store.Text.+put_large.Given as goal

abbrev pub decreases-put_large : goal.decreases-put_large
decreases-put_large l = l.n
