-- The counter is of the ledger of the blank.
use Rattle.vx_document.proofs.writing.reads.patch_place.Given as goal

abbrev pub ghosts-searched_place : goal.ghosts-searched_place
ghosts-searched_place a = record { name = a.blank.name; parts = a.blank.parts }
