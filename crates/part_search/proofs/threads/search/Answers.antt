use Rattle.part_search.proofs.threads.search.Goals as goal

pub returns-clause-searched : goal.returns-clause-searched
returns-clause-searched g c = c.requires.law.is_searched _ _ c.into_inner-space.ensures.lawful
