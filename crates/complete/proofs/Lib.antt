-- What the clauses of reading and writing come to.
pub mod Promised
