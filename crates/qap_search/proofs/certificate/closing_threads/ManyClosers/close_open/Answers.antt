use Rattle.qap_search.proofs.certificate.closing_threads.ManyClosers.close_open.Goals as goal

pub close_halves-requires-sync-R : goal.close_halves-requires-sync-R
close_halves-requires-sync-R g c κs within = c.requires
