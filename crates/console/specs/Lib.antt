-- What the contracts of the programs' shared part cite.
pub mod PrintedIn
