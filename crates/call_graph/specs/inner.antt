-- What the code lists while it searches for recursive methods: the words of private calls. No public clause names them.
pub mod Listed
